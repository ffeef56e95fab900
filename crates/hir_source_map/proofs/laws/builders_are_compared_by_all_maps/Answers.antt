use Rattle.hir_source_map.specs.same.SameBuilders.{builders_decide}
use Rattle.hir_source_map.proofs.laws.builders_are_compared_by_all_maps.Goals as goal

pub returns : goal.returns
returns c = builders_decide
