use Rattle.std.proofs.Common.{◌++◌, codes}
use Rattle.hir_show_run.specs.Answer.{asked_text, resolve_text}
use Rattle.hir_show_run.specs.internal.Answer.{chain_by}
use Rattle.hir_show_run.proofs.WritingLemmas.{put_line, put_then}
use Rattle.hir_show_run.proofs.scope_answers.answer_resolve.Goals as goal

pub returns : goal.returns
returns g c =
    let name = asked_text c.args.name.now c.args.hygiene in
    let meant = resolve_text (chain_by c.args.scopes.now c.args.id) c.args.name.now c.args.hygiene in
    put_line g.W.Sink c.args.output.now c.put_asked.new.self c.put_resolved.new.output c.put.new.self (codes "resolve ") c.args.id (name ++ meant) c.put_asked.ensures
    (put_then g.W.Sink c.put_asked.new.self c.put_asked_name.new.output c.put_resolved.new.output name meant c.put_asked_name.ensures c.put_resolved.ensures) c.put.ensures
