use Rattle.std.proofs.Common.{rules}
use Rattle.hir_scope.proofs.ResolveLemmas.{found_resolves}
use Rattle.hir_scope.proofs.expr_scopes.ExprScopes.entry_in_scope.Goals as goal

pub returns-in-Some : goal.returns-in-Some
returns-in-Some c = search (rules, found_resolves)
