use Rattle.std.proofs.Common.{◌+◌, ◌<◌, ◌^◌, length}
use Rattle.test_leaves.proofs.reading.echo.Given as goal

abbrev pub invariant-loop-output : goal.invariant-loop-output
invariant-loop-output g l = l.lines.count + length l.lines.pending + g.R.Source.allowance l.reader < 2 ^ 64

abbrev pub decreases-loop-output : goal.decreases-loop-output
decreases-loop-output g l = length l.lines.pending + g.R.Source.allowance l.reader
