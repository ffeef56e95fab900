-- Defines how a write through a `&mut` to one item changes an arena.
use Rattle.std.specs.Prelude.{ℕ, List, slice_set}
use Rattle.std.specs.Borrow.{Lends, MutBor, Fml, RattleType}
use Rattle.hir_collections.specs.contracts.arena.Arena.{the_row}

-- once the borrow ends, the item is the last value written through r, and nothing else in the arena has
-- changed
abbrev pub lends_item : (K T : RattleType) → MutBor (List T.Denot) → ℕ → MutBor T.Denot → Fml
lends_item K T arena id r = Lends (the_row K T) T arena r (slice_set arena.now id)
