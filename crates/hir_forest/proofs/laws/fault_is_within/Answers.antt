use Rattle.hir_forest.proofs.FaultLemmas.{fault_within}
use Rattle.hir_forest.proofs.laws.fault_is_within.Goals as goal

pub returns : goal.returns
returns c = fault_within
