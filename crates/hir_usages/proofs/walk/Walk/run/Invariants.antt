use Rattle.std.proofs.Common.{◌≡◌, length}
use Rattle.hir_usages.specs.internal.Pending.{AreInRange, visits_of}
use Rattle.hir_usages.specs.internal.Reading.{lists_of, with_tasks}
use Rattle.hir_usages.proofs.walk.Walk.run.Given as goal

abbrev pub invariant-loop-task : goal.invariant-loop-task
invariant-loop-task l =
    AreInRange l.self.store.now.nodes l.unread.stack.items
    × (with_tasks l.self (lists_of l.initial.found) l.initial.unread.stack.items
    ≡ with_tasks l.self (lists_of l.found) l.unread.stack.items)

abbrev pub decreases-loop-task : goal.decreases-loop-task
decreases-loop-task l = length (visits_of l.self.store.now.nodes l.unread.stack.items)
