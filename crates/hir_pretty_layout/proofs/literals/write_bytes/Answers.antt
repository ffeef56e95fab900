use Rattle.std.proofs.lemmas.List.{drop_more}
use Rattle.hir_pretty_layout.proofs.PieceLemmas.{on_err, some_written, stops_in_rest}
use Rattle.hir_pretty_layout.proofs.literals.write_bytes.Goals as goal

pub loop-byte-preserved : goal.loop-byte-preserved
loop-byte-preserved g c = some_written _ (rw (drop_more c.args.bytes.now c.loop-byte.byte-index 0
    c.loop-byte-test.true) at c.loop-byte.invariant) c.in_ok-write_byte.ensures.ok

pub returns-in_err-write_byte-clause-err : goal.returns-in_err-write_byte-clause-err
returns-in_err-write_byte-clause-err g c =
    on_err _ (stops_in_rest _ (rw (drop_more c.args.bytes.now c.loop-byte.byte-index 0 c.loop-byte-test.true) at c.loop-byte.invariant) c.in_err-write_byte.ensures.err)
