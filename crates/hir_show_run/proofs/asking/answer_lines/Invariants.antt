use Rattle.std.proofs.Common.{◌≡◌, ◌+◌, ◌≤◌, length, true, false}
use Rattle.hir_show_run.specs.internal.RunStates.{run_state_of}
use Rattle.hir_show_run.proofs.AskedLemmas.{SoFar}
use Rattle.hir_show_run.proofs.asking.answer_lines.Given as goal

abbrev pub invariant-loop-left : goal.invariant-loop-left
invariant-loop-left g l = record {
  same_asked : l.asked ≡ l.fn.asked;
  same_sink : l.output.writer.ghost_name ≡ l.fn.output.writer.ghost_name;
  same_read_mark : g.R.Source.is_failed l.reader ≡ g.R.Source.is_failed l.fn.reader;
  unfailed : g.W.Sink.is_failed l.output.writer.now ≡ false;
  falls : length l.lines.pending + g.R.Source.allowance l.reader + l.lines.count
      ≤ length l.fn.lines.pending + g.R.Source.allowance l.fn.reader + l.fn.lines.count;
  stays_ended : l.fn.lines.at_end ≡ true → l.lines.at_end ≡ true;
  so_far : SoFar g.A.Answers.may (g.A.Answers.Is l.fn.asked) l.fn.first (run_state_of g.R.Source g.W.Sink l.fn.lines l.fn.reader l.fn.output) (run_state_of g.R.Source g.W.Sink l.lines l.reader l.output);
}

abbrev pub decreases-loop-left : goal.decreases-loop-left
decreases-loop-left g l = length l.lines.pending + g.R.Source.allowance l.reader
