use Rattle.hir_forest.proofs.HeightLemmas.{height_bounded}
use Rattle.hir_forest.proofs.laws.heights_are_bounded.Goals as goal

pub returns : goal.returns
returns c = height_bounded
