use Rattle.std.proofs.Common.{◌≡◌}
use Rattle.hir_show_io.proofs.StdEndLemmas.{Consumes-told, IsAtEnd-told, read_done}
use Rattle.hir_show_io.proofs.std_end.StdEndSource.read.Goals as goal

pub returns-in-Done-clause-bytes : goal.returns-in-Done-clause-bytes
returns-in-Done-clause-bytes g c =
    let answer = read_done _ _ _ (rw c.in-Done.is at c.read_attempt.ensures) in
    rw c.loop.invariant.same_overrun (Consumes-told c.args.self.now.has_overrun _ _ _ _ c.loop.invariant.kept (rw answer at c.read.ensures.bytes).0)

pub returns-in-Done-clause-end : goal.returns-in-Done-clause-end
returns-in-Done-clause-end g c =
    λ is room.
    let answer = read_done _ _ _ (rw c.in-Done.is at c.read_attempt.ensures) in
    let read = rw answer at c.read.ensures.bytes in
    let none : c.in-Done.count ≡ 0 = cc in
    IsAtEnd-told c.args.self.now.has_overrun _ _ _ c.loop.invariant.kept (rw none at read.0) (read.1 none room)
