use Rattle.std.specs.List.{FoldsTo}
use Rattle.hir_node.specs.ChildCalls.{child_pats}
use Rattle.hir_node.proofs.pat.Pat.walk_child_pats.Given as goal

-- the calls still to come, after those made, are all the calls
abbrev pub invariant-loop-id : goal.invariant-loop-id
invariant-loop-id g l =
    goal.F-IsAlwaysCallable g l.f
    × ((last : _) → FoldsTo (λ p x q. goal.F-step g p x tt q) l.f l.id-iterator last → FoldsTo (λ p x q. goal.F-step g p x tt q) l.fn.f (child_pats l.fn.self) last)
