use Rattle.hir_forest.specs.same.SameRoots.{ends_decide, roots_decide, faults_decide}
use Rattle.hir_forest.proofs.laws.roots_are_compared_by_all_fields.Goals as goal

pub returns : goal.returns
returns c = record { ends = ends_decide; roots = roots_decide; faults = faults_decide }
