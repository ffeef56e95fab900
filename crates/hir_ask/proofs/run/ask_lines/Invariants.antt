use Rattle.std.proofs.Common.{◌+◌, ◌<◌, ◌^◌, length}
use Rattle.hir_ask.proofs.run.ask_lines.Given as goal

abbrev pub invariant-input : goal.invariant-input
invariant-input g l = l.lines.count + length l.lines.pending + g.R.Source.allowance l.reader < 2 ^ 64

abbrev pub decreases-input : goal.decreases-input
decreases-input g l = length l.lines.pending + g.R.Source.allowance l.reader
