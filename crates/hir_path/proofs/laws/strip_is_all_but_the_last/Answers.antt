use Rattle.hir_path.proofs.SegmentLemmas.{strip_is}
use Rattle.hir_path.proofs.laws.strip_is_all_but_the_last.Goals as goal

pub returns : goal.returns
returns c = strip_is
