use Rattle.hir_scope.proofs.UnderLemmas.{open_frames_at}
use Rattle.hir_scope.proofs.laws.open_frames_unfold.Goals as goal

pub returns : goal.returns
returns c = λ s sound n h. open_frames_at s.nodes (c.rank_decreases.ensures s sound) n h
