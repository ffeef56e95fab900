use Rattle.std.proofs.Common.{rules}
use Rattle.hir_scope.proofs.PathLemmas.{range_below}
use Rattle.hir_scope.proofs.expr_scopes.ExprScopes.scopes.Goals as goal

pub returns-clause-in_range : goal.returns-clause-in_range
returns-clause-in_range c = search (rules, range_below)
