use Rattle.std.proofs.Common.{◌≡◌, ◌≤◌, ◌-◌, length, drop, replicate}
use Rattle.hir_pretty_layout.proofs.buffer.trimmed_len.Given as goal

abbrev pub invariant-loop-len : goal.invariant-loop-len
invariant-loop-len l = record { within : l.len ≤ length l.text; spaces : drop l.len l.text ≡ replicate (length l.text - l.len) 32 }

abbrev pub decreases-loop-len : goal.decreases-loop-len
decreases-loop-len l = l.len
