use Rattle.memchr.specs.Find.{is_byte}
use Rattle.hir_show_io.proofs.Places.{ends_line, first_is}
use Rattle.hir_show_io.proofs.lines.find_line_end.Goals as goal

pub returns : goal.returns
returns c = ends_line _ _ (first_is (is_byte 10) c.args.bytes.now c.next.result c.next.new.self (rw c.memchr_iter.ensures.value at c.next.ensures.steps))
