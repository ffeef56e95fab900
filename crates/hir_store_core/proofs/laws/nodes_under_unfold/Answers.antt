use Rattle.hir_validate.proofs.SoundLemmas.{sound_falls}
use Rattle.hir_store_core.specs.Contents.{rooted_of}
use Rattle.hir_store_core.proofs.ReachedLemmas.{nodes_under_unfold}
use Rattle.hir_store_core.proofs.laws.nodes_under_unfold.Goals as goal

pub returns : goal.returns
returns c = λ s sound. nodes_under_unfold s.nodes (sound_falls (rooted_of s) sound)
