use Rattle.std.proofs.Common.{◌≡◌, ◌+◌, ◌≤◌, [], length}
use Rattle.hir_show_run.specs.internal.Output.{output_of}
use Rattle.hir_show_run.specs.internal.Parts.{builder_parts}
use Rattle.hir_show_run.specs.internal.RunStates.{run_state_of}
use Rattle.hir_show_run.proofs.BuildingLemmas.{SoFar}
use Rattle.hir_show_run.proofs.building.build.Given as goal

abbrev pub invariant-loop-alloc : goal.invariant-loop-alloc
invariant-loop-alloc g l = record {
  same_sink : l.output.writer.ghost_name ≡ l.fn.output.writer.ghost_name;
  same_mark : g.R.Source.is_failed l.reader ≡ g.R.Source.is_failed l.fn.reader;
  quiet : l.output.waiting ≡ [];
  untouched : output_of g.W.Sink l.output ≡ output_of g.W.Sink l.fn.output;
  falls : length l.lines.pending + g.R.Source.allowance l.reader + l.lines.count
      ≤ length l.fn.lines.pending + g.R.Source.allowance l.fn.reader + l.fn.lines.count;
  so_far : SoFar (g.R.Source.remaining l.fn.reader) (run_state_of g.R.Source g.W.Sink l.lines l.reader l.output) (builder_parts l.builder);
}

abbrev pub decreases-loop-alloc : goal.decreases-loop-alloc
decreases-loop-alloc g l = length l.lines.pending + g.R.Source.allowance l.reader
