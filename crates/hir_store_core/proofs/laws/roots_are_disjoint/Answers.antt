use Rattle.hir_store_core.proofs.ApartLemmas.{roots_are_disjoint}
use Rattle.hir_store_core.specs.Contents.{rooted_of}
use Rattle.hir_store_core.proofs.laws.roots_are_disjoint.Goals as goal

pub returns : goal.returns
returns c = λ s. roots_are_disjoint (rooted_of s)
