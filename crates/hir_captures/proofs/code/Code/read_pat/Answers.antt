use Rattle.std.proofs.Common.{◌≡◌, ◌∙◌, ◌++◌, rules}
use Rattle.std.proofs.lemmas.Result.{on_ok_weaker}
use Rattle.hir_node.specs.declared.node_id.NodeId.{NodeId}
use Rattle.hir_scope.specs.Order.{met_in_form}
use Rattle.hir_captures.specs.{Uses.uses_at, internal.Pending.tasks_of, internal.Reading.with_uses}
use Rattle.hir_captures.proofs.ReadLemmas.{read_pat}
use Rattle.hir_captures.proofs.code.Code.read_pat.Goals.{in-Some+in-Path+in_ok-ask, in_default, in_default-via-in-None-1, in_default-via-in-Some+in-Missing-1}
use Rattle.hir_captures.proofs.code.Code.read_pat.Goals as goal

pub returns-clause-reads : goal.returns-clause-reads
returns-clause-reads c =
    let code = c.args.self.now in
    let store = code.store.now in
    let fall = c.rank_decreases.ensures store c.has_no_fault.ensures in
    let was = c.args.unread.now.stack.items in
    let both : (c.match-assignment.found ≡ with_uses code c.args.found.now (uses_at store (NodeId.Pat c.args.id) c.args.assignment))
    × (c.match-assignment.assignment ≡ c.args.assignment) =
    elim c.match-assignment.branch [
      | in-Some+in-Path+in_ok-ask w ↦ search rules
      | in_default w ↦ elim w.in_default.branch [
        | in_default-via-in-None-1 v ↦ search rules
        | in_default-via-in-Some+in-Missing-1 v ↦ search rules
      ]
    ] in
    on_ok_weaker c.push_in.result (λ pushed. read_pat code fall c.args.id c.index-2.result.now c.args.assignment was
    c.push_in.new.self.stack.items c.args.found.now c.match-assignment.found c.index-2.ensures c.requires.in_range both.0
    (pushed ∙ (λ i. tasks_of (both.1 i) (met_in_form (c.of_pat-form.ensures i)) ++ was))) c.push_in.ensures.ok
