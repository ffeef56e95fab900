-- Defines how a write through a `&mut` to one item changes a short list.
use Rattle.std.specs.Prelude.{ℕ, List, slice_set}
use Rattle.std.specs.Borrow.{Lends, MutBor, Fml, RattleType}
use Rattle.hir_collections.specs.contracts.short_list.ShortList.{the_row}

-- once the borrow ends, the item is the last value written through r, and nothing else in the list has
-- changed
abbrev pub lends_item : (T : RattleType) → MutBor (List T.Denot) → ℕ → MutBor T.Denot → Fml
lends_item T list at r = Lends (the_row T) T list r (slice_set list.now at)
