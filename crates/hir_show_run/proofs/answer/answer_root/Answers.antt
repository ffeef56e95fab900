use Rattle.std.proofs.Common.{codes}
use Rattle.hir_show_run.specs.Answer.{root_text}
use Rattle.hir_show_run.proofs.WritingLemmas.{put_line}
use Rattle.hir_show_run.proofs.answer.answer_root.Goals as goal

pub returns : goal.returns
returns g c =
    put_line g.W.Sink c.args.output.now c.put_asked.new.self c.put_root.new.output c.put.new.self (codes "root-of ") c.args.id (root_text c.args.store.now.roots c.args.id) c.put_asked.ensures c.put_root.ensures c.put.ensures
