use Rattle.hir_store_core.proofs.AncestorLemmas.{ancestors_is}
use Rattle.hir_store_core.specs.Contents.{rooted_of}
use Rattle.hir_store_core.proofs.laws.ancestors_are.Goals as goal

pub returns : goal.returns
returns c = λ s. ancestors_is (rooted_of s)
