use Rattle.hir_validate.proofs.SoundLemmas.{sound_falls}
use Rattle.hir_store_core.specs.Contents.{rooted_of}
use Rattle.hir_store_core.proofs.ApartLemmas.{children_apart}
use Rattle.hir_store_core.proofs.ReachedLemmas.{reached_once}
use Rattle.hir_store_core.proofs.laws.reached_is_listed_once.Goals as goal

pub returns : goal.returns
returns c = λ s sound. reached_once s.nodes (sound_falls (rooted_of s) sound) (children_apart (rooted_of s) sound)
