use Rattle.std.proofs.Common.{◌≡◌, [], length}
use Rattle.hir_show_io.specs.Effects.{IsWrittenUpTo}
use Rattle.hir_show_io.proofs.ends.write_all.Given as goal

abbrev pub invariant-loop-rest : goal.invariant-loop-rest
invariant-loop-rest g l = record {
  same_mark : g.W.Sink.is_failed l.writer ≡ g.W.Sink.is_failed l.fn.writer;
  idle : l.bytes ≡ [] → l.writer ≡ l.fn.writer;
  written : IsWrittenUpTo (g.W.Sink.contents l.fn.writer) (g.W.Sink.contents l.writer) l.bytes l.rest;
}

abbrev pub decreases-loop-rest : goal.decreases-loop-rest
decreases-loop-rest g l = length l.rest
