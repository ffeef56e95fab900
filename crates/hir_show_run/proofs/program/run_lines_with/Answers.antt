use Rattle.std.proofs.Common.{sym, ◌∙◌}
use Rattle.hir_show_run.specs.internal.Output.{Output}
use Rattle.hir_show_run.specs.internal.RunStates.{run_state_of}
use Rattle.hir_show_run.proofs.ClosingLemmas.{closes, closes_reads}
use Rattle.hir_show_run.proofs.ScriptLemmas.{runs_out_first}
use Rattle.hir_show_run.proofs.program.run_lines_with.Goals as goal

pub returns-in_default : goal.returns-in_default
returns-in_default g c =
    (runs_out_first (g.R.Source.remaining c.args.reader.now) (g.W.Sink.contents c.args.writer.now) (g.R.Source.remaining c.args.reader.now) c.args.lines.now c.requires.fresh, c.requires.unfailed.0, c.requires.unfailed.1)

pub returns : goal.returns
returns g c =
    let done = c.answer_script-outcome in
    let start : Output = record { sink_name = c.args.writer.ghost_name; contents = g.W.Sink.contents c.args.writer.now; failed = g.W.Sink.is_failed c.args.writer.now; waiting = c.in-Ok.waiting } in
    let p = run_state_of g.R.Source g.W.Sink done.new.lines done.new.reader done.new.output in
    let new = g.W.Sink.contents c.close.new.writer in
    rw (c.writer-1.given.1 (sym done.ensures.same)) (
      closes (g.R.Source.remaining c.args.reader.now) start p new done.result c.close.result c.in-Ok.ensures done.ensures.runs c.close.ensures.closes,
      done.ensures.input_failed ∙ closes_reads p.output.contents new p.output.waiting done.result c.close.result c.close.ensures.closes done.ensures.quiet,
      c.close.ensures.failure done.ensures.output_failed,
    )
