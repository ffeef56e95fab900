use Rattle.std.proofs.Common.{arith}
use Rattle.std.proofs.lemmas.Str.Pattern.{split_parts}
use Rattle.hir_pretty_layout.proofs.PageLemmas.{put_all-append}
use Rattle.hir_pretty_layout.proofs.BufferLemmas.{grown_then}
use Rattle.hir_pretty_layout.proofs.buffer.PageBuffer.lines.Goals as goal
use Rattle.std.proofs.lemmas.Grind.{common_steps}

pub line-requires : goal.line-requires
line-requires c = let parts = rw c.in-Some.is at (split_parts 10 _ _ c.split_once.ensures.cases (omega arith)) in parts.1

pub loop-line-preserved : goal.loop-line-preserved
loop-line-preserved c =
    grind (
      arith,
      common_steps,
      split_parts 10 _ _ c.split_once.ensures.cases (omega arith),
      put_all-append,
      grown_then c.loop-line.invariant.grown (grown_then c.in_ok-line.ensures.grown (grown_then c.in_ok-begin.ensures.grown c.in_ok-end_line.ensures.grown)),
    )

pub line-requires-2 : goal.line-requires-2
line-requires-2 c = rw c.in_default.is at (split_parts 10 _ _ c.split_once.ensures.cases (omega arith))
