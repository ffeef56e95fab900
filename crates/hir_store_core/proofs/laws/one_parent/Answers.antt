use Rattle.hir_store_core.proofs.ApartLemmas.{one_parent}
use Rattle.hir_store_core.specs.Contents.{rooted_of}
use Rattle.hir_store_core.proofs.laws.one_parent.Goals as goal

pub returns : goal.returns
returns c = λ s. one_parent (rooted_of s)
