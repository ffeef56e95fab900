use Rattle.hir_scope.proofs.SameLemmas.{flat_empty}
use Rattle.hir_scope.proofs.expr_scopes.ExprScopes.with_room.Goals as goal
use Rattle.std.proofs.Common.{rules}

pub invariant_of-result : goal.invariant_of-result
invariant_of-result c = search (rules, flat_empty)
