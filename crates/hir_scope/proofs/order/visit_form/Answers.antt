use Rattle.std.proofs.Common.{rules}
use Rattle.hir_node.specs.{Runs.a_call}
use Rattle.hir_node.proofs.RunLemmas.{runs_one, runs_append, may_here, may_first, may_after}
use Rattle.hir_scope.proofs.order.visit_form.Goals as goal

pub returns-in-Let : goal.returns-in-Let
returns-in-Let g c = rw c.in-Let.is (a_call c.on_expr-in-Let.ensures (runs_one c.on_pat.ensures))

pub on_pats-requires : goal.on_pats-requires
on_pats-requires g c = search (rules, runs_append, may_first, may_after)

pub on_expr-requires-in-Closure : goal.on_expr-requires-in-Closure
on_expr-requires-in-Closure g c =
    let types = runs_append c.visit_each-in-Closure.ensures c.on_type_opt.ensures in
    may_here (may_after (may_after (rw c.in-Closure.is at c.requires) types) c.on_pats.ensures)

pub returns-in-Assignment : goal.returns-in-Assignment
returns-in-Assignment g c = rw c.in-Assignment.is (a_call c.on_pat-in-Assignment.ensures (runs_one c.on_expr-in-Assignment.ensures))

pub returns-in-PatternType : goal.returns-in-PatternType
returns-in-PatternType g c = rw c.in-PatternType.is (a_call c.on_type.ensures (runs_one c.on_pat-in-PatternType.ensures))
