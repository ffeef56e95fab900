use Rattle.std.proofs.Common.{◌≢◌, ℕ, ◌<◌, ◌≤◌, length}
use Rattle.std.specs.Prelude.{slice_index}
use Rattle.hir_pretty_layout.proofs.buffer.has_no_end.Given as goal

-- no line end stands behind what is left
abbrev pub invariant-loop-left : goal.invariant-loop-left
invariant-loop-left l = record { within : l.left ≤ length l.text; behind : (i : ℕ) → l.left ≤ i → i < length l.text → slice_index l.text i ≢ 10 }

abbrev pub decreases-loop-left : goal.decreases-loop-left
decreases-loop-left l = l.left
