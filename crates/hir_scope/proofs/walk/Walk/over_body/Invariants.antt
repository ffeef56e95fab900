use Rattle.std.proofs.Common.{◌≡◌, ◌≤◌, ◌++◌, take, drop, length}
use Rattle.std.specs.List.{flat_map}
use Rattle.hir_body.specs.Bodies.{formals_of}
use Rattle.hir_scope.specs.Frames.{binds}
use Rattle.hir_scope.specs.internal.Begins.{formal_tasks}
use Rattle.hir_scope.proofs.walk.Walk.over_body.Given as goal

abbrev pub invariant-loop-param : goal.invariant-loop-param
invariant-loop-param l =
    l.entries.items ≡ l.initial.entries.items ++ flat_map (binds l.store.nodes) (formals_of (take l.param-index l.params))

abbrev pub invariant-loop-rest : goal.invariant-loop-rest
invariant-loop-rest l =
    (l.rest ≤ length l.params)
    × (l.walk.scopes ≡ l.initial.walk.scopes) × (l.walk.current ≡ l.initial.walk.current)
    × (l.walk.tasks.stack.items ≡ formal_tasks (formals_of (drop l.rest l.params)) ++ l.initial.walk.tasks.stack.items)

abbrev pub decreases-loop-rest : goal.decreases-loop-rest
decreases-loop-rest l = l.rest
