use Rattle.std.proofs.Common.{rules}
use Rattle.hir_scope.proofs.SameLemmas.{entries_are_counted}
use Rattle.hir_scope.proofs.expr_scopes.ExprScopes.entry_count.Goals as goal

pub returns-clause-count : goal.returns-clause-count
returns-clause-count c = search (rules, entries_are_counted)
