use Rattle.hir_store_core.proofs.UnderLemmas.{under_two}
use Rattle.hir_store_core.specs.Contents.{rooted_of}
use Rattle.hir_store_core.proofs.laws.under_two_is_under_one.Goals as goal

pub returns : goal.returns
returns c = λ s. under_two (rooted_of s)
