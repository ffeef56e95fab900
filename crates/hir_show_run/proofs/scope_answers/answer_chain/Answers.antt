use Rattle.std.proofs.Common.{codes}
use Rattle.hir_show_run.specs.internal.Answer.{chain_by}
use Rattle.hir_show_run.specs.Answer.{chain_text}
use Rattle.hir_show_run.proofs.WritingLemmas.{put_line}
use Rattle.hir_show_run.proofs.scope_answers.answer_chain.Goals as goal

pub returns : goal.returns
returns g c =
    put_line g.W.Sink c.args.output.now c.put_asked.new.self c.put_known.new.output c.put.new.self (codes "chain ") c.args.id (chain_text (chain_by c.args.scopes.now c.args.id)) c.put_asked.ensures c.put_known.ensures c.put.ensures
