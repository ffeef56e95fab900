use Rattle.std.specs.Fmt.{decimal}
use Rattle.hir_show_run.proofs.WritingLemmas.{put_then}
use Rattle.hir_show_run.proofs.output.Output.put_asked.Goals as goal

pub returns : goal.returns
returns g c =
    put_then g.W.Sink c.args.self.now c.put.new.self c.put_number.new.self c.args.word.now (decimal c.args.id) c.put.ensures (rw c.into_raw.ensures at c.put_number.ensures)
