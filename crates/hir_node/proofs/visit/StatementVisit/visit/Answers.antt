use Rattle.hir_node.specs.ChildCalls.{t, opt}
use Rattle.hir_node.proofs.RunLemmas.{may_here, may_first, may_after, runs_one, runs_append}
use Rattle.hir_node.proofs.visit.StatementVisit.visit.Goals as goal

pub on_pat-requires : goal.on_pat-requires
on_pat-requires g c =
    let all = rw c.in-Let.is at c.requires in
    may_here (may_after (may_first _ (opt t c.in-Let.type_ref) all) (runs_append c.on_expr_opt.ensures c.on_expr_opt-in-Let.ensures))

pub returns-in-Let : goal.returns-in-Let
returns-in-Let g c =
    rw c.in-Let.is (runs_append (runs_append (runs_append c.on_expr_opt.ensures c.on_expr_opt-in-Let.ensures) (runs_one c.on_pat.ensures)) c.on_type_opt.ensures)
