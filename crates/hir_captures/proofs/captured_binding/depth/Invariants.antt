use Rattle.std.proofs.Common.{◌≡◌, ◌≤◌, ◌+◌, Some, length}
use Rattle.hir_scope.specs.Paths.{chain}
use Rattle.hir_captures.proofs.captured_binding.depth.Given as goal

abbrev pub invariant-loop : goal.invariant-loop
invariant-loop l =
    (goal.iterator-loop).can_next l.iterator' × (goal.iterator-loop).is_finite l.iterator'
    × (l.depth + length l.iterator' ≡ length (chain l.scopes.scopes (Some l.fn.scope)))
    × (length (chain l.scopes.scopes (Some l.fn.scope)) ≤ 4294967295)
