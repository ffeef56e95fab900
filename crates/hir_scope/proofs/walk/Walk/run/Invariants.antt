use Rattle.hir_scope.specs.internal.WalkState.{state, WalkSteps, turns_left}
use Rattle.hir_scope.proofs.walk.Walk.run.Given as goal

abbrev pub invariant-loop-task : goal.invariant-loop-task
invariant-loop-task l = WalkSteps l.store.nodes (state l.initial.self) (state l.self) l.initial.steps l.steps

abbrev pub decreases-loop-task : goal.decreases-loop-task
decreases-loop-task l = turns_left l.store.nodes l.self.tasks.stack.items
