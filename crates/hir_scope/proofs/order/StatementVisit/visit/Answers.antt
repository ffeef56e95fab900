use Rattle.hir_node.proofs.RunLemmas.{runs_one, runs_append, may_here, may_after}
use Rattle.hir_scope.proofs.order.StatementVisit.visit.Goals as goal
use Rattle.std.proofs.lemmas.Grind.{common_steps}
use Rattle.std.proofs.Common.{arith}

pub on_pat-requires : goal.on_pat-requires
on_pat-requires g c =
    may_here (may_after (rw c.in-Let.is at c.requires)
    (runs_append (runs_append c.on_type_opt.ensures c.on_expr_opt.ensures) c.on_expr_opt-in-Let.ensures))

pub returns-in-Let : goal.returns-in-Let
returns-in-Let g c = grind (arith, common_steps, runs_append, runs_one)
