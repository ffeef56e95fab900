use Rattle.hir_node.specs.ChildCalls.{e, opt, path_calls}
use Rattle.hir_node.proofs.RunLemmas.{may_here, may_first, may_after, runs_one, runs_append}
use Rattle.hir_node.proofs.pat.Pat.visit_children.Goals as goal

pub on_pats-requires : goal.on_pats-requires
on_pats-requires g c = rw c.as_slice.ensures (rw c.in-Tuple.is at c.requires)

pub returns-in-Tuple : goal.returns-in-Tuple
returns-in-Tuple g c = rw c.in-Tuple.is (rw c.as_slice.ensures at c.on_pats.ensures)

pub on_pats-requires-in-Or : goal.on_pats-requires-in-Or
on_pats-requires-in-Or g c = rw c.as_slice-in-Or.ensures (rw c.in-Or.is at c.requires)

pub returns-in-Or : goal.returns-in-Or
returns-in-Or g c = rw c.in-Or.is (rw c.as_slice-in-Or.ensures at c.on_pats-in-Or.ensures)

pub visit_each-requires : goal.visit_each-requires
visit_each-requires g c = rw c.as_slice-in-Record.ensures (may_first _ (path_calls c.in-Record.path) (rw c.in-Record.is at c.requires))

pub on_path-requires : goal.on_path-requires
on_path-requires g c = may_after (rw c.in-Record.is at c.requires) (rw c.as_slice-in-Record.ensures at c.visit_each.ensures)

pub returns-in-Record : goal.returns-in-Record
returns-in-Record g c = rw c.in-Record.is (runs_append (rw c.as_slice-in-Record.ensures at c.visit_each.ensures) c.on_path.ensures)

pub on_expr_opt-requires : goal.on_expr_opt-requires
on_expr_opt-requires g c = may_first _ (opt e c.in-Range.end) (rw c.in-Range.is at c.requires)

pub on_expr_opt-requires-in-Range : goal.on_expr_opt-requires-in-Range
on_expr_opt-requires-in-Range g c = may_after (rw c.in-Range.is at c.requires) c.on_expr_opt.ensures

pub returns-in-Range : goal.returns-in-Range
returns-in-Range g c = rw c.in-Range.is (runs_append c.on_expr_opt.ensures c.on_expr_opt-in-Range.ensures)

pub on_path-requires-in-Path : goal.on_path-requires-in-Path
on_path-requires-in-Path g c = rw c.in-Path.is at c.requires

pub returns-in-Path : goal.returns-in-Path
returns-in-Path g c = rw c.in-Path.is c.on_path-in-Path.ensures

pub on_pat_opt-requires-in-Bind : goal.on_pat_opt-requires-in-Bind
on_pat_opt-requires-in-Bind g c = rw c.in-Bind.is at c.requires

pub returns-in-Bind : goal.returns-in-Bind
returns-in-Bind g c = rw c.in-Bind.is c.on_pat_opt-in-Bind.ensures

pub on_pats-requires-in-TupleStruct : goal.on_pats-requires-in-TupleStruct
on_pats-requires-in-TupleStruct g c = rw c.as_slice-in-TupleStruct.ensures (may_first _ (path_calls c.in-TupleStruct.path) (rw c.in-TupleStruct.is at c.requires))

pub on_path-requires-in-TupleStruct : goal.on_path-requires-in-TupleStruct
on_path-requires-in-TupleStruct g c = may_after (rw c.in-TupleStruct.is at c.requires) (rw c.as_slice-in-TupleStruct.ensures at c.on_pats-in-TupleStruct.ensures)

pub returns-in-TupleStruct : goal.returns-in-TupleStruct
returns-in-TupleStruct g c = rw c.in-TupleStruct.is (runs_append (rw c.as_slice-in-TupleStruct.ensures at c.on_pats-in-TupleStruct.ensures) c.on_path-in-TupleStruct.ensures)

pub on_pat-requires : goal.on_pat-requires
on_pat-requires g c = may_here (rw c.in-Ref.is at c.requires)

pub returns-in-Ref : goal.returns-in-Ref
returns-in-Ref g c = rw c.in-Ref.is (runs_one c.on_pat.ensures)
