use Rattle.std.proofs.Common.{codes}
use Rattle.hir_show_run.proofs.WritingLemmas.{put_line}
use Rattle.hir_show_run.proofs.captures.put_no_closure.Goals as goal

pub returns : goal.returns
returns g c =
    put_line g.W.Sink c.args.output.now c.put_asked.new.self c.put.new.self c.put-2.new.self (codes "captures ") c.args.id (codes " no closure") c.put_asked.ensures c.put.ensures c.put-2.ensures
