use Rattle.std.proofs.Common.{◌≡◌, ◌∷◌, take, take_all}
use Rattle.hir_show_run.specs.Answer.{names_text}
use Rattle.hir_show_run.proofs.WritingLemmas.{put_none, put_then, names_more}
use Rattle.hir_show_run.proofs.scope_answers.put_names.Goals as goal

pub loop-entry-init : goal.loop-entry-init
loop-entry-init g c = put_none g.W.Sink c.args.output.now

pub loop-entry-preserved : goal.loop-entry-preserved
loop-entry-preserved g c =
    let more = names_more c.args.entries.now c.loop-entry.entry-index c.entry-item.result c.loop-entry-test.true c.entry-item.is in
    let named : c.name.result.now ≡ c.entry-item.result.name = c.name.ensures in
    rw (more, ← named) (put_then g.W.Sink c.args.output.now c.loop-entry.output c.put_name.new.output (names_text (take c.loop-entry.entry-index c.args.entries.now)) (32 ∷ c.name.result.now) c.loop-entry.invariant c.put_name.ensures)

pub returns : goal.returns
returns g c = rw (take_all c.loop-entry.entry-index c.args.entries.now c.loop-entry-test.false) at c.loop-entry.invariant
