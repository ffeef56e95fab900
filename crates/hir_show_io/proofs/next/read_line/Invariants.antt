use Rattle.std.proofs.Common.{◌≡◌, ◌+◌, ◌≤◌, ◌⊎◌, [], false, cond, length}
use Rattle.std.specs.Io.KnownBytes.{Keeps}
use Rattle.hir_show_io.specs.Effects.{IsWrittenUpTo}
use Rattle.hir_show_io.specs.Text.{HasNoLineEnd}
use Rattle.hir_show_io.specs.NextLine.{bytes_left}
use Rattle.hir_show_io.proofs.next.read_line.Given as goal

abbrev pub invariant-loop-output : goal.invariant-loop-output
invariant-loop-output g l = record {
  same_count : l.lines.count ≡ l.fn.lines.count;
  same_input_mark : g.R.Source.is_failed l.reader ≡ g.R.Source.is_failed l.fn.reader;
  same_output_mark : g.W.Sink.is_failed l.writer ≡ g.W.Sink.is_failed l.fn.writer;
  kept : Keeps (bytes_left l.fn.lines.pending l.fn.lines.at_end (g.R.Source.remaining l.fn.reader)) (bytes_left l.lines.pending l.lines.at_end (g.R.Source.remaining l.reader));
  written : IsWrittenUpTo (g.W.Sink.contents l.fn.writer) (g.W.Sink.contents l.writer) l.fn.output l.output;
  idle : l.fn.output ≡ [] → (l.output ≡ []) × (l.writer ≡ l.fn.writer);
  falls : length l.lines.pending + g.R.Source.allowance l.reader ≤ length l.fn.lines.pending + g.R.Source.allowance l.fn.reader;
  late : ((l.reader ≡ l.fn.reader) × (l.writer ≡ l.fn.writer) × (l.output ≡ l.fn.output) × (l.lines ≡ l.fn.lines)) ⊎ (HasNoLineEnd l.fn.lines.pending × (l.fn.lines.at_end ≡ false) × (l.output ≡ []));
}

abbrev pub decreases-loop-output : goal.decreases-loop-output
decreases-loop-output g l = g.R.Source.allowance l.reader + cond l.lines.at_end 0 1
