use Rattle.std.proofs.Common.{rules}
use Rattle.hir_scope.proofs.ResolveLemmas.{OnTheWay, go_outward}
use Rattle.hir_scope.proofs.expr_scopes.ExprScopes.find_name_in_scope.Goals as goal
use Rattle.std.proofs.lemmas.Grind.{common_steps}

pub loop-current-preserved : goal.loop-current-preserved
loop-current-preserved c = search (rules, common_steps, OnTheWay, go_outward)
