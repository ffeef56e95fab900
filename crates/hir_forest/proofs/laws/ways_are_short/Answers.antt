use Rattle.hir_forest.proofs.HeightLemmas.{climb_short}
use Rattle.hir_forest.proofs.laws.ways_are_short.Goals as goal

pub returns : goal.returns
returns c = λ g f k n p h x. climb_short g f k n p x h
