use Rattle.std.proofs.Common.{codes}
use Rattle.hir_show_run.specs.Answer.{children_text}
use Rattle.hir_show_run.proofs.WritingLemmas.{put_line}
use Rattle.hir_show_run.proofs.answer.answer_children.Goals as goal

pub returns : goal.returns
returns g c =
    put_line g.W.Sink c.args.output.now c.put_asked.new.self c.put_known.new.output c.put.new.self (codes "children ") c.args.id (children_text c.args.store.now.nodes c.args.id) c.put_asked.ensures c.put_known.ensures c.put.ensures
