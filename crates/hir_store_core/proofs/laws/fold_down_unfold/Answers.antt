use Rattle.hir_validate.proofs.SoundLemmas.{sound_falls}
use Rattle.hir_store_core.specs.Contents.{rooted_of}
use Rattle.hir_validate.proofs.RecursionLemmas.{fold_down_at}
use Rattle.hir_store_core.proofs.laws.fold_down_unfold.Goals as goal

pub returns : goal.returns
returns g c = λ s sound. fold_down_at s.nodes (sound_falls (rooted_of s) sound) (g.V.ByChildren.step s.nodes) g.V.ByChildren.default (g.V.ByChildren.depends_on_children s.nodes)
