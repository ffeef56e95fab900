use Rattle.hir_validate.proofs.SoundLemmas.{sound_falls}
use Rattle.hir_store_core.specs.Contents.{rooted_of}
use Rattle.hir_store_core.proofs.laws.rank_decreases.Goals as goal

pub returns : goal.returns
returns c = λ s. sound_falls (rooted_of s)
