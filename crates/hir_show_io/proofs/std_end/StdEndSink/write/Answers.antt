use Rattle.hir_show_io.proofs.StdEndLemmas.{Appends-suffix, write_done}
use Rattle.hir_show_io.proofs.std_end.StdEndSink.write.Goals as goal

pub returns-in-Done-clause-bytes : goal.returns-in-Done-clause-bytes
returns-in-Done-clause-bytes g c =
    let answer = write_done _ _ _ (rw c.in-Done.is at c.write_attempt.ensures) in
    Appends-suffix _ _ _ _ c.loop.invariant.kept (rw answer at c.write.ensures.bytes)
