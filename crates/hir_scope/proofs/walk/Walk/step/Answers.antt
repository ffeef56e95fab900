use Rattle.std.proofs.Common.{rules, ◌≡◌, List, [], ◌∷◌, ap, ◌∙◌, refl, subst}
use Rattle.std.proofs.lemmas.Result.{on_ok_weaker}
use Rattle.hir_scope.specs.Frames.{empty}
use Rattle.hir_scope.specs.declared.{tasks.CurrentScopes.CurrentScopes, tasks.Task.Task}
use Rattle.hir_scope.specs.internal.{Pending.both, WalkState.state, WalkState.OpensScopes}
use Rattle.hir_scope.proofs.DoneLemmas.{bound_moves, constant_moves, leave_moves, macro_moves, pat_moves, root_moves, type_moves}
use Rattle.hir_scope.proofs.MovingLemmas.{at, goes_task, goes_given, goes_when}
use Rattle.hir_scope.proofs.walk.Walk.step.Goals as goal

pub returns-in_ok-set_scope-in-Expr-clause-goes : goal.returns-in_ok-set_scope-in-Expr-clause-goes
returns-in_ok-set_scope-in-Expr-clause-goes c =
    let w = c.args.self.now in
    let m = c.in_ok-scope-in-Expr in
    let met = c.enter_expr.new.self in
    goes_given c.args.store.now.nodes w.scopes w.current c.args.task w.tasks.stack.items
    (state met) c.set_scope.new.self met.current met.tasks.stack.items c.in-Expr.expr m.scope c.args.steps.now
    c.tick.new.self
    c.in-Expr.is m.ensures.meets.moves m.ensures.meets.frames c.in_ok-set_scope-in-Expr.ensures.ok refl refl c.tick.ensures

pub returns-in-Pat-clause-goes : goal.returns-in-Pat-clause-goes
returns-in-Pat-clause-goes c = search (rules, goes_task, on_ok_weaker, pat_moves)

pub returns-in_ok-push-in-TypeRef-clause-goes : goal.returns-in_ok-push-in-TypeRef-clause-goes
returns-in_ok-push-in-TypeRef-clause-goes c = search (rules, goes_task, on_ok_weaker, type_moves)

pub returns-in_ok-push_pat-in-Bound-clause-goes : goal.returns-in_ok-push_pat-in-Bound-clause-goes
returns-in_ok-push_pat-in-Bound-clause-goes c = search (rules, goes_task, on_ok_weaker, bound_moves)

pub returns-in-Arm-clause-goes : goal.returns-in-Arm-clause-goes
returns-in-Arm-clause-goes c = search (rules, goes_task)

pub returns-in-GuardedArm-clause-goes : goal.returns-in-GuardedArm-clause-goes
returns-in-GuardedArm-clause-goes c = search (rules, goes_task)

pub returns-in-MacroDef-clause-goes : goal.returns-in-MacroDef-clause-goes
returns-in-MacroDef-clause-goes c = search (rules, goes_task, on_ok_weaker, macro_moves)

pub returns-in_ok-push-in-Constant-2-clause-goes : goal.returns-in_ok-push-in-Constant-2-clause-goes
returns-in_ok-push-in-Constant-2-clause-goes c =
    let s = c.args.store.now.nodes in
    let w = c.args.self.now in
    let id = c.in-Constant.expr in
    let pushed = c.in_ok-push-in-Constant-2.ensures.ok ∙ ap (λ (ts : List Task). Task.Expr id ∷ ts) c.in_ok-push-in-Constant.ensures.ok in
    goes_when s w c.args.task _ _ _ c.in-Constant.is c.requires.ready (constant_moves s w id pushed)

pub returns-in_ok-open-in-Root-clause-goes : goal.returns-in_ok-open-in-Root-clause-goes
returns-in_ok-open-in-Root-clause-goes c =
    let s = c.args.store.now.nodes in
    let w = c.args.self.now in
    let us = c.push-in-Root.new.self.stack.items in
    let first : c.both-self.result ≡ both 0 = search rules in
    let o = subst (λ (a : CurrentScopes). OpensScopes (at w.scopes a us) (state c.open-in-Root.new.self) (empty ∷ []) []) first
    c.in_ok-open-in-Root.ensures.opened in
    goes_when s w c.args.task _ _ _ c.in-Root.is c.requires.ready (root_moves s w c.in-Root.root c.in_ok-push-in-Root.ensures.ok o)

pub returns-in-Leave-clause-goes : goal.returns-in-Leave-clause-goes
returns-in-Leave-clause-goes c =
    let s = c.args.store.now.nodes in
    let outer : CurrentScopes = record { scope = c.in-Leave.scope; const_scope = c.in-Leave.const_scope } in
    goes_when s c.args.self.now c.args.task _ _ _ c.in-Leave.is c.requires.ready (leave_moves s c.args.self.now outer)
