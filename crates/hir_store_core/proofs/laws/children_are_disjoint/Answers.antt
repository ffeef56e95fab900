use Rattle.hir_store_core.proofs.ApartLemmas.{children_apart}
use Rattle.hir_store_core.specs.Contents.{rooted_of}
use Rattle.hir_store_core.proofs.laws.children_are_disjoint.Goals as goal

pub returns : goal.returns
returns c = λ s. children_apart (rooted_of s)
