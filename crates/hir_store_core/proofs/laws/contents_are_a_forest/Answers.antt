use Rattle.hir_validate.proofs.FaultLemmas.{accepted_forest}
use Rattle.hir_store_core.specs.Contents.{rooted_of}
use Rattle.hir_store_core.proofs.laws.contents_are_a_forest.Goals as goal

pub returns : goal.returns
returns c = λ s. accepted_forest (rooted_of s)
