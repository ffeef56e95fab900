use Rattle.hir_forest.proofs.HeightLemmas.{forest_from_none}
use Rattle.hir_forest.proofs.laws.faultless_is_forest.Goals as goal

pub returns : goal.returns
returns c = forest_from_none
