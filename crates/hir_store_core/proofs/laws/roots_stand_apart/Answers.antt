use Rattle.hir_validate.proofs.SoundLemmas.{roots_apart}
use Rattle.hir_store_core.specs.Contents.{rooted_of}
use Rattle.hir_store_core.proofs.laws.roots_stand_apart.Goals as goal

pub returns : goal.returns
returns c = λ s. roots_apart (rooted_of s)
