use Rattle.hir_node.proofs.RunLemmas.{runs_one, runs_append}
use Rattle.hir_scope.proofs.DeferLemmas.{through}
use Rattle.hir_scope.proofs.tasks.Tasks.defer_in.Goals as goal

pub returns-in-If : goal.returns-in-If
returns-in-If c =
    rw c.in-If.is (runs_append (runs_append c.on_expr.ensures c.on_expr-in-If.ensures)
    (runs_append c.defer_leave.ensures (through c.on_expr_opt.ensures)))

pub returns-in-Let : goal.returns-in-Let
returns-in-Let c = rw c.in-Let.is (runs_append c.on_expr-in-Let.ensures (runs_one c.defer.ensures))

pub returns-in-PatternType : goal.returns-in-PatternType
returns-in-PatternType c =
    rw c.in-PatternType.is (runs_append c.on_type.ensures
    (runs_append (runs_one c.defer-in-PatternType.ensures) c.defer_leave-in-PatternType.ensures))
