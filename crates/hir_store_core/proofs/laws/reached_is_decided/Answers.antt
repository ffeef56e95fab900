use Rattle.hir_validate.proofs.SoundLemmas.{sound_falls}
use Rattle.hir_store_core.specs.Contents.{rooted_of}
use Rattle.hir_store_core.proofs.ReachedLemmas.{reached_decided}
use Rattle.hir_store_core.proofs.laws.reached_is_decided.Goals as goal

pub returns : goal.returns
returns c = λ s sound. reached_decided s.nodes (sound_falls (rooted_of s) sound)
