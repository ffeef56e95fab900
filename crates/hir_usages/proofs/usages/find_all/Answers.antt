use Rattle.std.proofs.Common.{◌∙◌}
use Rattle.hir_usages.specs.Usages.{usages_of_body}
use Rattle.hir_usages.proofs.AffectedLemmas.{all_wanted}
use Rattle.hir_usages.proofs.usages.find_all.Goals as goal

pub returns-clause-usages : goal.returns-clause-usages
returns-clause-usages c =
    let b = c.args.body.now in
    c.in_ok-found.ensures.usages ∙ all_wanted b.store.nodes (usages_of_body b c.args.scopes.now)
