use Rattle.std.proofs.Common.{◌∙◌, ap, length, inr, arith, rules}
use Rattle.hir_show_io.proofs.Asking.{kept_filled, written_all, late_now}
use Rattle.hir_show_io.proofs.next.read_line.Goals as goal

pub loop-output-preserved : goal.loop-output-preserved
loop-output-preserved g c =
    let kept = c.loop-output.invariant in
    let more = c.in-More.ensures {u = tt} in
    let read = c.in-Ok.ensures {u = tt} in
    let fills = rw more.0 at read.fills in
    let late = late_now c.loop-output.lines c.args.lines.now kept.late more.1 more.2 in
    record {
      same_count = ap (λ v. v.count) fills.2 ∙ kept.same_count;
      same_input_mark = read.failure ∙ kept.same_input_mark;
      same_output_mark = search rules;
      kept = kept_filled _ _ _ c.loop-output.lines c.fill.new.self kept.kept more.1 fills;
      written = rw c.flush.ensures.empty (written_all _ (g.W.Sink.contents c.loop-output.writer) _ _ _ kept.written (search rules));
      idle = λ none. let held = kept.idle none in let still = c.flush.ensures.idle held.0 in (c.flush.ensures.empty, still.1 ∙ held.1);
      falls = omega (arith, read.falls, kept.falls, ap (λ v. length v.pending) more.0);
      late = inr (late.0, late.1, c.flush.ensures.empty);
    }
