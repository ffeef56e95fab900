use Rattle.hir_store.proofs.BuildingLemmas.{finish_fault-one}
use Rattle.hir_store.proofs.laws.first_fault_unique.Goals as goal

pub returns : goal.returns
returns c = finish_fault-one
