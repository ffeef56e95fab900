-- Beside LazyBox.antt: what only contracts within this crate cite.
use Rattle.std.specs.Prelude.{Option, Some}
use Rattle.std.specs.Borrow.{Lends, MutBor, Fml, RattleType}
use Rattle.hir_collections.specs.contracts.boxed.Boxed as boxed
use Rattle.std.specs.contracts.option.Option as option
use Rattle.hir_collections.specs.contracts.lazy_box.LazyBox.{the_row}

-- once the borrow ends, the value is present, and is the last one written through r
abbrev pub lends_made : (T : RattleType) → MutBor (Option T.Denot) → MutBor T.Denot → Fml
lends_made T place r = Lends (option.the_row (boxed.the_row T)) T place r (λ value. Some value)
