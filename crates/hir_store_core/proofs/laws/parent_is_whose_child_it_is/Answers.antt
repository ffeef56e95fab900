use Rattle.hir_store_core.proofs.AncestorLemmas.{parent_is, parent_tells}
use Rattle.hir_store_core.specs.Contents.{rooted_of}
use Rattle.hir_store_core.proofs.laws.parent_is_whose_child_it_is.Goals as goal

pub returns : goal.returns
returns c = λ s sound n p. (parent_tells (rooted_of s) sound n p, parent_is (rooted_of s) sound n p)
