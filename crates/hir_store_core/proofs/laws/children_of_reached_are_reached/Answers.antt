use Rattle.hir_store_core.proofs.ReachedLemmas.{child_reached}
use Rattle.hir_store_core.proofs.laws.children_of_reached_are_reached.Goals as goal

pub returns : goal.returns
returns c = child_reached
