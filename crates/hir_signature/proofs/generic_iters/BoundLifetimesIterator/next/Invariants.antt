use Rattle.std.proofs.Common.{◌≡◌, length}
use Rattle.std.specs.List.{filter}
use Rattle.hir_signature.specs.Params.{is_bound}
use Rattle.hir_signature.proofs.generic_iters.BoundLifetimesIterator.next.Given as goal

-- only lifetimes bound in the other way were passed over
abbrev pub invariant-loop-id : goal.invariant-loop-id
invariant-loop-id l =
    filter (λ entry. is_bound l.self-inside.bound_type entry.1) l.self-inside.lifetimes ≡ l.fn.self

abbrev pub decreases-loop-id : goal.decreases-loop-id
decreases-loop-id l = length l.self-inside.lifetimes
