use Rattle.std.proofs.Common.{◌≡◌, sym}
use Rattle.hir_source_map.specs.Sources.{no_expr_sources}
use Rattle.hir_source_map.proofs.NoSources.{nothing_there}
use Rattle.hir_source_map.proofs.source_map.ExpressionStoreSourceMap.exprs.Goals as goal

pub returns-in-Some-clause-none : goal.returns-in-Some-clause-none
returns-in-Some-clause-none c = λ none.
    let empty_value : no_expr_sources ≡ c.in-Some.exprs = rw none at c.get.ensures in
    nothing_there c.args.self.now (rw c.in-Some.is (sym empty_value))
