use Rattle.hir_forest.proofs.FaultLemmas.{forest_fault-one}
use Rattle.hir_forest.proofs.laws.fault_unique.Goals as goal

pub returns : goal.returns
returns c = forest_fault-one
