use Rattle.hir_store.specs.same.SameBuilders.{builders_decide}
use Rattle.hir_store.proofs.laws.builders_are_compared_by_all_that_they_have.Goals as goal

pub returns : goal.returns
returns c = builders_decide
