use Rattle.std.proofs.Common.{◌≡◌, ◌≤◌, ◌++◌, drop, length, map}
use Rattle.hir_body.specs.Bodies.{formals_of}
use Rattle.hir_usages.specs.declared.to_visit.Task.{Task}
use Rattle.hir_usages.proofs.usages.first_visits.Given as goal

abbrev pub invariant-loop-rest : goal.invariant-loop-rest
invariant-loop-rest l =
    (l.rest ≤ length l.params)
    × (l.unread.stack.items ≡ map Task.Pat (formals_of (drop l.rest l.params)) ++ l.initial.unread.stack.items)

abbrev pub decreases-loop-rest : goal.decreases-loop-rest
decreases-loop-rest l = l.rest
