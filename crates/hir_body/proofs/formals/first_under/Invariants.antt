use Rattle.std.proofs.Common.{ℕ, ◌<◌, None}
use Rattle.hir_store_core.specs.NodeSets.{IsIn}
use Rattle.hir_body.specs.Bodies.{formals_of, under_fault}
use Rattle.hir_body.proofs.formals.first_under.Given as goal

abbrev pub invariant-loop-i : goal.invariant-loop-i
invariant-loop-i l = (j : ℕ) → j < l.i → under_fault (IsIn l.under) (formals_of l.params) j None
