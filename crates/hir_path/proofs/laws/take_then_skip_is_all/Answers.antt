use Rattle.hir_path.proofs.SegmentLemmas.{first_then_skip}
use Rattle.hir_path.proofs.laws.take_then_skip_is_all.Goals as goal

pub returns : goal.returns
returns c = first_then_skip
