use Rattle.std.proofs.Common.{rules}
use Rattle.hir_scope.specs.internal.WalkState.{state}
use Rattle.hir_scope.proofs.MovingLemmas.{gone_start, gone_then}
use Rattle.hir_scope.proofs.walk.Walk.run.Goals as goal

pub loop-task-init : goal.loop-task-init
loop-task-init c = gone_start c.args.store.now.nodes (state c.args.self.now) c.args.steps.now c.requires.ready

pub loop-task-preserved : goal.loop-task-preserved
loop-task-preserved c = search (rules, gone_then)
