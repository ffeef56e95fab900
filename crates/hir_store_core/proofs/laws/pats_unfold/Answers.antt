use Rattle.hir_store_core.proofs.PatLemmas.{pats_unfold}
use Rattle.hir_validate.proofs.SoundLemmas.{sound_falls}
use Rattle.hir_store_core.specs.Contents.{rooted_of}
use Rattle.hir_store_core.proofs.laws.pats_unfold.Goals as goal

pub returns : goal.returns
returns c = λ s sound id h. pats_unfold s.nodes (sound_falls (rooted_of s) sound) id h
