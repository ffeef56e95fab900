use Rattle.std.proofs.Common.{sym, ◌∙◌}
use Rattle.hir_pretty_docs.proofs.Common.{on_ok_weaker, checked}
use Rattle.hir_pretty_docs.proofs.tokens.Tokens.check.Goals as goal

pub returns-clause-ok : goal.returns-clause-ok
returns-clause-ok c = on_ok_weaker c.push_deferred.result (λ h. checked (λ before items n d. h before items (n ∙ sym c.len-all.ensures) d)) c.push_deferred.ensures.ok
