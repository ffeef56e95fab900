-- Defines how a write through a `&mut` to one item changes the place of a short list's items.
use Rattle.std.specs.Prelude.{ℕ}
use Rattle.std.specs.Borrow.{Lends, MutBor, Fml, RattleType}
use Rattle.hir_collections.specs.ShortList.{with_item}
use Rattle.hir_collections.specs.contracts.short_list.Place.{the_row}

-- once the borrow ends, the item at the index is the last value written through r, and nothing else in the
-- place has changed
abbrev pub lends_item : (T : RattleType) → MutBor (the_row T).Denot → ℕ → MutBor T.Denot → Fml
lends_item T place at r = Lends (the_row T) T place r (with_item place.now at)
