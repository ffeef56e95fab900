-- Defines how a write through the `&mut` that a rare value lends changes it.
use Rattle.std.specs.Prelude.{Result}
use Rattle.std.specs.Borrow.{LendsIfOk, MutBor, Fml, RattleType}
use Rattle.hir_collections.specs.declared.empty.Empty as empty_value
use Rattle.hir_collections.specs.contracts.lazy_box.LazyBox.{the_row}

-- once the borrow ends, the value is the last one written through r; it is unchanged if there is no r
abbrev pub lends_value : {E : Type 0} (T : RattleType) → empty_value.Ghosts T.Denot → MutBor T.Denot
    → Result (MutBor T.Denot) E → Fml
lends_value T g lazy_box r = LendsIfOk (the_row T g) T lazy_box r (λ value. value) lazy_box.now
