use Rattle.hir_validate.proofs.SoundLemmas.{rank_bounded}
use Rattle.hir_store_core.proofs.laws.ranks_are_bounded.Goals as goal

pub returns : goal.returns
returns c = rank_bounded
