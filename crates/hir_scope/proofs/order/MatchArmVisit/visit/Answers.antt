use Rattle.hir_node.specs.Runs.{a_call}
use Rattle.hir_node.proofs.RunLemmas.{runs_one, runs_append}
use Rattle.hir_scope.proofs.order.MatchArmVisit.visit.Goals as goal

pub returns : goal.returns
returns g c = a_call c.on_pat.ensures (runs_append c.on_expr_opt.ensures (runs_one c.on_expr.ensures))
