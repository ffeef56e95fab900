use Rattle.std.proofs.Common.{◌≡◌, List, ◌∷◌, ◌++◌, ap, ◌∙◌, rules}
use Rattle.hir_node.specs.ChildCalls.{e, opt}
use Rattle.hir_scope.specs.{declared.tasks.Task.Task}
use Rattle.hir_scope.specs.internal.Pending.{tasks_of}
use Rattle.hir_scope.proofs.DoneLemmas.{arm_moves}
use Rattle.hir_scope.proofs.walk.Walk.enter_arm.Goals.{in-Some+in_ok-push-3, in_default}
use Rattle.hir_scope.proofs.walk.Walk.enter_arm.Goals as goal

pub returns-clause-moves : goal.returns-clause-moves
returns-clause-moves c =
    let w = c.args.self.now in
    let a = c.args in
    let fall = c.rank_decreases.ensures a.store.now c.has_no_fault.ensures in
    let guarded : c.match-guard.tasks.stack.items ≡ tasks_of (opt e a.guard) ++ c.push-2.new.self.stack.items =
    elim c.match-guard.branch [
      | in-Some+in_ok-push-3 w ↦ search rules
      | in_default w ↦ search rules
    ] in
    let pushed =
    c.in_ok-push-4.ensures.ok
    ∙ ap (λ (ts : List Task). Task.Pat a.pat ∷ ts) (guarded
    ∙ ap (λ (ts : List Task). tasks_of (opt e a.guard) ++ ts) (c.in_ok-push-2.ensures.ok
    ∙ ap (λ (ts : List Task). Task.Expr a.expr ∷ ts) c.in_ok-push.ensures.ok)) in
    arm_moves a.store.now.nodes w a.pat a.expr fall a.guard pushed c.in_ok-open.ensures.opened c.requires.ready
