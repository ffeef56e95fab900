use Rattle.hir_usages.proofs.VisibleLemmas.{visible_resolves}
use Rattle.hir_usages.proofs.laws.visible_names_are_those_that_resolve.Goals as goal

pub returns : goal.returns
returns c = λ frames entry. visible_resolves frames entry
