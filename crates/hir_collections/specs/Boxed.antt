-- Defines how a write through a `&mut` changes the value of a `Boxed`.
use Rattle.std.specs.Borrow.{Lends, MutBor, Fml, RattleType}
use Rattle.hir_collections.specs.contracts.boxed.Boxed.{the_row}

-- once the borrow ends, the value is the last one written through r
abbrev pub lends_value : (T : RattleType) → MutBor T.Denot → MutBor T.Denot → Fml
lends_value T boxed r = Lends (the_row T) T boxed r (λ value. value)
