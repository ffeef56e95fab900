use Rattle.std.proofs.Common.{rules, ℕ, ◌++◌, refl, sym, ap, ◌∙◌, subst}
use Rattle.hir_node.specs.ChildCalls.{children}
use Rattle.hir_node.specs.declared.node_id.NodeId.{NodeId}
use Rattle.hir_scope.specs.{Chains.within_own, Order.met_in_form}
use Rattle.hir_scope.specs.ScopingForms.{ScopingForm, form_at, form_of, expr_form}
use Rattle.hir_scope.specs.internal.WalkState.{state, walk_state, frames_of_scope, AreInRange, OpensScopes, HasFrames, scope_within}
use Rattle.hir_scope.specs.internal.Pending.{form_tasks, opened_frames, opened_const_frames}
use Rattle.hir_scope.proofs.DoneLemmas.{children_in_range, expr_moves, empty_moves, met_over}
use Rattle.hir_scope.proofs.MovingLemmas.{frames_grown, own_frames}
use Rattle.hir_scope.proofs.walk.Walk.enter_expr.Goals as goal

pub open_inside-requires-clause-in_range : goal.open_inside-requires-clause-in_range
open_inside-requires-clause-in_range c =
    let s = c.args.store.now.nodes in
    let fall = c.rank_decreases.ensures c.args.store.now c.has_no_fault.ensures in
    let is = c.of_expr-form.ensures ∙ ap (form_at expr_form) (sym c.index.ensures) in
    subst (λ (x : ScopingForm). AreInRange s (children (met_in_form x))) (sym is)
    (children_in_range s fall (NodeId.Expr c.args.expr) c.requires.ready.known.0)

pub returns-in_err-open_inside-clause-full : goal.returns-in_err-open_inside-clause-full
returns-in_err-open_inside-clause-full c = search (rules, met_over)

pub returns-clause-meets : goal.returns-clause-meets
returns-clause-meets c =
    let s = c.args.store.now.nodes in
    let w = c.args.self.now in
    let n = c.open_inside.new.self in
    let x = form_of s (NodeId.Expr c.args.expr) in
    let h = frames_of_scope (state w) in
    let ts = w.tasks.stack.items in
    let fall = c.rank_decreases.ensures c.args.store.now c.has_no_fault.ensures in
    let is = c.of_expr-form.ensures ∙ ap (form_at expr_form) (sym c.index.ensures) in
    let pushed = c.in_ok-push_in.ensures.ok ∙ ap (λ (y : ScopingForm). form_tasks w.current y ++ ts) is in
    let o = subst (λ (y : ScopingForm). OpensScopes (walk_state w c.push_in.new.self.stack.items) (state n)
    (opened_frames s y) (opened_const_frames y)) is c.in_ok-open_inside.ensures.opened in
    let current = frames_grown w.scopes.scopes n.scopes.scopes o.more w.current.scope h o.grows
    (record { within = c.requires.ready.scope; is = refl }) in
    let scope = c.scope_within.ensures ∙ ap (λ (y : ScopingForm). scope_within y n.current.scope w.current.scope) is in
    record {
      moves = expr_moves s fall w c.args.expr pushed o c.requires.ready;
      frames = subst (λ (i : ℕ). HasFrames n.scopes.scopes i (within_own x h)) (sym scope)
          (own_frames s x n.scopes.scopes n.current.scope w.current.scope h o.scope current);
    }

pub returns-in-Leaf-clause-meets : goal.returns-in-Leaf-clause-meets
returns-in-Leaf-clause-meets c = search (rules, empty_moves)
