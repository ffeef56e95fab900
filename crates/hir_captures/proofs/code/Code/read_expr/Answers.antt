use Rattle.std.proofs.Common.{◌≡◌, ◌∙◌, ◌++◌, None, rules}
use Rattle.std.proofs.lemmas.Result.{on_ok_weaker}
use Rattle.hir_node.specs.declared.node_id.NodeId.{NodeId}
use Rattle.hir_scope.specs.Order.{met_in_form}
use Rattle.hir_captures.specs.{Uses.uses_at, internal.Pending.tasks_of, internal.Reading.with_uses}
use Rattle.hir_captures.proofs.ReadLemmas.{read_expr}
use Rattle.hir_captures.proofs.code.Code.read_expr.Goals.{in-Path+in_ok-ask, in_default}
use Rattle.hir_captures.proofs.code.Code.read_expr.Goals as goal

pub returns-clause-reads : goal.returns-clause-reads
returns-clause-reads c =
    let code = c.args.self.now in
    let store = code.store.now in
    let fall = c.rank_decreases.ensures store c.has_no_fault.ensures in
    let was = c.args.unread.now.stack.items in
    let asked : c.match-expr.found ≡ with_uses code c.args.found.now (uses_at store (NodeId.Expr c.args.id) None) =
    elim c.match-expr.branch [
      | in-Path+in_ok-ask w ↦ search rules
      | in_default w ↦ search rules
    ] in
    on_ok_weaker c.push_in.result (λ pushed. read_expr code fall c.args.id c.index-expr.result.now was c.push_in.new.self.stack.items
    c.args.found.now c.match-expr.found c.index-expr.ensures c.requires.in_range asked
    (pushed ∙ (λ i. tasks_of (c.if_assignment.ensures i) (met_in_form (c.of_expr-form.ensures i)) ++ was))) c.push_in.ensures.ok
