use Rattle.std.proofs.Common.{◌≡◌}
use Rattle.std.specs.Io.KnownBytes.{Keeps}
use Rattle.hir_show_io.proofs.std_end.StdEndSink.write.Given as goal

abbrev pub invariant-loop : goal.invariant-loop
invariant-loop g l = record {
  same_mark : l.self.has_failed ≡ l.fn.self.has_failed;
  kept : Keeps (g.T.Write.contents l.fn.self.inner) (g.T.Write.contents l.self.inner);
}
