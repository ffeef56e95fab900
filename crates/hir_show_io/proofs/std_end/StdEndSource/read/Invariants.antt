use Rattle.std.proofs.Common.{◌≡◌}
use Rattle.std.specs.Io.KnownBytes.{Keeps}
use Rattle.hir_show_io.proofs.std_end.StdEndSource.read.Given as goal

abbrev pub invariant-loop : goal.invariant-loop
invariant-loop g l = record {
  same_mark : l.self.has_failed ≡ l.fn.self.has_failed;
  same_overrun : l.self.has_overrun ≡ l.fn.self.has_overrun;
  same_allowance : l.self.allowance ≡ l.fn.self.allowance;
  kept : Keeps (g.T.Read.remaining l.fn.self.inner) (g.T.Read.remaining l.self.inner);
}
