use Rattle.std.proofs.Common.{◌≡◌, ◌∷◌, take, take_all, decimal}
use Rattle.hir_show_run.specs.Answer.{after_spaces}
use Rattle.hir_show_run.proofs.WritingLemmas.{put_none, put_then, numbers_more}
use Rattle.hir_show_run.proofs.captures.put_bindings.Goals as goal

pub loop-binding-init : goal.loop-binding-init
loop-binding-init g c = put_none g.W.Sink c.args.output.now

pub loop-binding-preserved : goal.loop-binding-preserved
loop-binding-preserved g c =
    let more = numbers_more c.args.bindings.now c.loop-binding.binding-index c.binding-item.result c.loop-binding-test.true c.binding-item.is in
    let number : c.into_raw.result ≡ c.binding-item.result = c.into_raw.ensures in
    rw (more, ← number) (put_then g.W.Sink c.args.output.now c.loop-binding.output c.put_spaced.new.self (after_spaces (take c.loop-binding.binding-index c.args.bindings.now)) (32 ∷ decimal c.into_raw.result) c.loop-binding.invariant c.put_spaced.ensures)

pub returns : goal.returns
returns g c = rw (take_all c.loop-binding.binding-index c.args.bindings.now c.loop-binding-test.false) at c.loop-binding.invariant
