use Rattle.std.specs.List.{flat_map}
use Rattle.hir_node.specs.ChildCalls.{e, t, opt, args_calls}
use Rattle.hir_node.specs.Runs.{a_call}
use Rattle.hir_node.proofs.RunLemmas.{may_here, may_then, may_first, may_after, runs_one, runs_append}
use Rattle.hir_node.proofs.expr.Expr.visit_children.Goals as goal

pub on_path-requires : goal.on_path-requires
on_path-requires g c = rw c.in-Path.is at c.requires

pub returns-in-Path : goal.returns-in-Path
returns-in-Path g c = rw c.in-Path.is c.on_path.ensures

pub visit_array-requires : goal.visit_array-requires
visit_array-requires g c = rw c.in-Array.is at c.requires

pub returns-in-Array : goal.returns-in-Array
returns-in-Array g c = rw c.in-Array.is c.visit_array.ensures

pub on_type-requires : goal.on_type-requires
on_type-requires g c = may_here (rw c.in-OffsetOf.is at c.requires)

pub returns-in-OffsetOf : goal.returns-in-OffsetOf
returns-in-OffsetOf g c = rw c.in-OffsetOf.is (runs_one c.on_type.ensures)

pub on_anon_const_expr-requires : goal.on_anon_const_expr-requires
on_anon_const_expr-requires g c = may_here (rw c.in-Const.is at c.requires)

pub returns-in-Const : goal.returns-in-Const
returns-in-Const g c = rw c.in-Const.is (runs_one c.on_anon_const_expr.ensures)

pub on_pat-requires : goal.on_pat-requires
on_pat-requires g c = may_here (rw c.in-Let.is at c.requires)

pub on_expr-requires-in-Let : goal.on_expr-requires-in-Let
on_expr-requires-in-Let g c = may_here (may_then (rw c.in-Let.is at c.requires) c.on_pat.ensures)

pub returns-in-Let : goal.returns-in-Let
returns-in-Let g c = rw c.in-Let.is (a_call c.on_pat.ensures (runs_one c.on_expr-in-Let.ensures))

pub visit_each-requires : goal.visit_each-requires
visit_each-requires g c = rw c.as_slice.ensures (may_first _ (opt e c.in-Block.tail) (rw c.in-Block.is at c.requires))

pub on_expr_opt-requires-in-Block : goal.on_expr_opt-requires-in-Block
on_expr_opt-requires-in-Block g c = may_after (rw c.in-Block.is at c.requires) (rw c.as_slice.ensures at c.visit_each.ensures)

pub returns-in-Block : goal.returns-in-Block
returns-in-Block g c = rw c.in-Block.is (runs_append (rw c.as_slice.ensures at c.visit_each.ensures) c.on_expr_opt-in-Block.ensures)

pub on_expr-requires-in-Loop : goal.on_expr-requires-in-Loop
on_expr-requires-in-Loop g c = may_here (rw c.in-Loop.is at c.requires)

pub returns-in-Loop : goal.returns-in-Loop
returns-in-Loop g c = rw c.in-Loop.is (runs_one c.on_expr-in-Loop.ensures)

pub on_expr-requires-in-Call : goal.on_expr-requires-in-Call
on_expr-requires-in-Call g c = may_here (rw c.in-Call.is at c.requires)

pub on_exprs-requires : goal.on_exprs-requires
on_exprs-requires g c = rw c.as_slice-in-Call.ensures (may_then (rw c.in-Call.is at c.requires) c.on_expr-in-Call.ensures)

pub returns-in-Call : goal.returns-in-Call
returns-in-Call g c = rw c.in-Call.is (a_call c.on_expr-in-Call.ensures (rw c.as_slice-in-Call.ensures at c.on_exprs.ensures))

pub on_expr-requires-in-MethodCall : goal.on_expr-requires-in-MethodCall
on_expr-requires-in-MethodCall g c = may_here (rw c.in-MethodCall.is at c.requires)

pub on_exprs-requires-in-MethodCall : goal.on_exprs-requires-in-MethodCall
on_exprs-requires-in-MethodCall g c =
    rw c.as_slice-in-MethodCall.ensures
    (may_first _ (opt args_calls c.in-MethodCall.generic_args) (may_then (rw c.in-MethodCall.is at c.requires) c.on_expr-in-MethodCall.ensures))

pub on_expr-requires-in-Match : goal.on_expr-requires-in-Match
on_expr-requires-in-Match g c = may_here (rw c.in-Match.is at c.requires)

pub visit_each-requires-in-Match : goal.visit_each-requires-in-Match
visit_each-requires-in-Match g c = rw c.as_slice-in-Match.ensures (may_then (rw c.in-Match.is at c.requires) c.on_expr-in-Match.ensures)

pub returns-in-Match : goal.returns-in-Match
returns-in-Match g c = rw c.in-Match.is (a_call c.on_expr-in-Match.ensures (rw c.as_slice-in-Match.ensures at c.visit_each-in-Match.ensures))

pub on_expr_opt-requires-in-Break : goal.on_expr_opt-requires-in-Break
on_expr_opt-requires-in-Break g c = rw c.in-Break.is at c.requires

pub returns-in-Break : goal.returns-in-Break
returns-in-Break g c = rw c.in-Break.is c.on_expr_opt-in-Break.ensures

pub on_expr-requires-in-Cast : goal.on_expr-requires-in-Cast
on_expr-requires-in-Cast g c = may_here (rw c.in-Cast.is at c.requires)

pub on_type-requires-in-Cast : goal.on_type-requires-in-Cast
on_type-requires-in-Cast g c = may_here (may_then (rw c.in-Cast.is at c.requires) c.on_expr-in-Cast.ensures)

pub returns-in-Cast : goal.returns-in-Cast
returns-in-Cast g c = rw c.in-Cast.is (a_call c.on_expr-in-Cast.ensures (runs_one c.on_type-in-Cast.ensures))

pub on_expr-requires-in-BinaryOp : goal.on_expr-requires-in-BinaryOp
on_expr-requires-in-BinaryOp g c = may_here (rw c.in-BinaryOp.is at c.requires)

pub on_expr-requires-in-BinaryOp-2 : goal.on_expr-requires-in-BinaryOp-2
on_expr-requires-in-BinaryOp-2 g c = may_here (may_then (rw c.in-BinaryOp.is at c.requires) c.on_expr-in-BinaryOp.ensures)

pub returns-in-BinaryOp : goal.returns-in-BinaryOp
returns-in-BinaryOp g c = rw c.in-BinaryOp.is (a_call c.on_expr-in-BinaryOp.ensures (runs_one c.on_expr-in-BinaryOp-2.ensures))

pub on_pat-requires-in-Assignment : goal.on_pat-requires-in-Assignment
on_pat-requires-in-Assignment g c = may_here (rw c.in-Assignment.is at c.requires)

pub on_expr-requires-in-Assignment : goal.on_expr-requires-in-Assignment
on_expr-requires-in-Assignment g c = may_here (may_then (rw c.in-Assignment.is at c.requires) c.on_pat-in-Assignment.ensures)

pub returns-in-Assignment : goal.returns-in-Assignment
returns-in-Assignment g c = rw c.in-Assignment.is (a_call c.on_pat-in-Assignment.ensures (runs_one c.on_expr-in-Assignment.ensures))

pub on_expr-requires-in-Index : goal.on_expr-requires-in-Index
on_expr-requires-in-Index g c = may_here (rw c.in-Index.is at c.requires)

pub on_expr-requires-in-Index-2 : goal.on_expr-requires-in-Index-2
on_expr-requires-in-Index-2 g c = may_here (may_then (rw c.in-Index.is at c.requires) c.on_expr-in-Index.ensures)

pub returns-in-Index : goal.returns-in-Index
returns-in-Index g c = rw c.in-Index.is (a_call c.on_expr-in-Index.ensures (runs_one c.on_expr-in-Index-2.ensures))

pub on_expr-requires-in-Closure : goal.on_expr-requires-in-Closure
on_expr-requires-in-Closure g c = may_here (rw c.in-Closure.is at c.requires)

pub on_pats-requires : goal.on_pats-requires
on_pats-requires g c =
    let rest = may_then (rw c.in-Closure.is at c.requires) c.on_expr-in-Closure.ensures in
    rw c.as_slice-in-Closure.ensures (may_first _ (flat_map (opt t) c.in-Closure.arg_types) (may_first _ (opt t c.in-Closure.ret_type) rest))

pub visit_each-requires-in-Closure : goal.visit_each-requires-in-Closure
visit_each-requires-in-Closure g c =
    let rest = may_then (rw c.in-Closure.is at c.requires) c.on_expr-in-Closure.ensures in
    rw c.as_slice-in-Closure-2.ensures (may_after (may_first _ (opt t c.in-Closure.ret_type) rest) (rw c.as_slice-in-Closure.ensures at c.on_pats.ensures))

pub on_type_opt-requires : goal.on_type_opt-requires
on_type_opt-requires g c =
    let rest = may_then (rw c.in-Closure.is at c.requires) c.on_expr-in-Closure.ensures in
    may_after rest (runs_append (rw c.as_slice-in-Closure.ensures at c.on_pats.ensures) (rw c.as_slice-in-Closure-2.ensures at c.visit_each-in-Closure.ensures))

pub returns-in-Closure : goal.returns-in-Closure
returns-in-Closure g c =
    let pats = rw c.as_slice-in-Closure.ensures at c.on_pats.ensures in
    let types = rw c.as_slice-in-Closure-2.ensures at c.visit_each-in-Closure.ensures in
    rw c.in-Closure.is (a_call c.on_expr-in-Closure.ensures (runs_append (runs_append pats types) c.on_type_opt.ensures))

pub on_exprs-requires-in-Tuple : goal.on_exprs-requires-in-Tuple
on_exprs-requires-in-Tuple g c = rw c.as_slice-in-Tuple.ensures (rw c.in-Tuple.is at c.requires)

pub returns-in-Tuple : goal.returns-in-Tuple
returns-in-Tuple g c = rw c.in-Tuple.is (rw c.as_slice-in-Tuple.ensures at c.on_exprs-in-Tuple.ensures)
