use Rattle.hir_store_core.proofs.PatLemmas.{exprs_in_unfold}
use Rattle.hir_validate.proofs.SoundLemmas.{sound_falls}
use Rattle.hir_store_core.specs.Contents.{rooted_of}
use Rattle.hir_store_core.proofs.laws.exprs_in_unfold.Goals as goal

pub returns : goal.returns
returns c = λ s sound id h. exprs_in_unfold s.nodes (sound_falls (rooted_of s) sound) id h
