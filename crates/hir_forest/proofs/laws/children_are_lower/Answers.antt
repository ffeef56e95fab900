use Rattle.hir_forest.proofs.HeightLemmas.{height_falls}
use Rattle.hir_forest.proofs.laws.children_are_lower.Goals as goal

pub returns : goal.returns
returns c = height_falls
