use Rattle.hir_collections.specs.Exact.{exact}
use Rattle.hir_source_map.specs.same.SameComparedPart.{compared_equiv}
use Rattle.hir_source_map.specs.same.SameDiagnostics.{diagnostics_decide}
use Rattle.hir_source_map.specs.same.SameMaps.{maps_decide}
use Rattle.hir_source_map.proofs.laws.equality_is_of_the_compared_part.Goals as goal

pub returns-clause-decides : goal.returns-clause-decides
returns-clause-decides c = maps_decide

pub returns-clause-equivalence : goal.returns-clause-equivalence
returns-clause-equivalence c = compared_equiv (search exact) (search exact) diagnostics_decide
