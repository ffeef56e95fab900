use Rattle.hir_scope.proofs.SameLemmas.{parents_seen}
use Rattle.hir_scope.proofs.expr_scopes.ExprScopes.parents_stand_earlier.Goals as goal
use Rattle.std.proofs.Common.{rules}

pub returns-clause-parents : goal.returns-clause-parents
returns-clause-parents c = search (rules, parents_seen)
