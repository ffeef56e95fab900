use Rattle.std.proofs.Common.{◌++◌, codes}
use Rattle.hir_show_run.specs.Answer.{after_spaces}
use Rattle.hir_show_run.proofs.WritingLemmas.{put_line, put_then}
use Rattle.hir_show_run.proofs.captures.put_captures.Goals as goal

pub returns : goal.returns
returns g c =
    let numbers = after_spaces c.args.bindings.now in
    put_line g.W.Sink c.args.output.now c.put_asked.new.self c.put_bindings.new.output c.put-2.new.self (codes "captures ") c.args.id (codes " =" ++ numbers) c.put_asked.ensures
    (put_then g.W.Sink c.put_asked.new.self c.put.new.self c.put_bindings.new.output (codes " =") numbers c.put.ensures c.put_bindings.ensures) c.put-2.ensures
