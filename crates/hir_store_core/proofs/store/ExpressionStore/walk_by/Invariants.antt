use Rattle.std.proofs.Common.{length}
use Rattle.hir_store_core.specs.internal.PatTurns.{turns}
use Rattle.hir_store_core.proofs.TurnLemmas.{steps_step, steps}
use Rattle.hir_store_core.proofs.TurnWalk.{WalksOn}
use Rattle.hir_store_core.proofs.store.ExpressionStore.walk_by.Given as goal

abbrev pub invariant-loop-coming : goal.invariant-loop-coming
invariant-loop-coming g l = WalksOn g.V.TurnVisitor.may g.V.TurnVisitor.step l.fn.self.nodes l.fn.top l.fn.visitor l.visitor l.coming

abbrev pub decreases-loop-coming : goal.decreases-loop-coming
decreases-loop-coming g l = steps_step (steps l.fn.self.nodes l.fn.links l.fn.top (length (turns l.fn.self.nodes l.fn.top))) l.coming
