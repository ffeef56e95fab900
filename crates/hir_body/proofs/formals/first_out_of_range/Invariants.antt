use Rattle.std.proofs.Common.{ℕ, ◌<◌, length, None}
use Rattle.hir_body.specs.Bodies.{range_fault}
use Rattle.hir_body.proofs.formals.first_out_of_range.Given as goal

abbrev pub invariant-loop-i : goal.invariant-loop-i
invariant-loop-i l = (j : ℕ) → j < l.i → range_fault (length l.store.nodes.pats) l.params j None
