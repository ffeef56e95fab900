use Rattle.std.proofs.Common.{refl}
use Rattle.hir_show_run.specs.Run.{no_lines}
use Rattle.hir_show_run.proofs.ScriptLemmas.{runs_out_first}
use Rattle.hir_show_run.proofs.program.run_with.Goals as goal

pub returns-in_default : goal.returns-in_default
returns-in_default g c =
    (no_lines, (runs_out_first (g.R.Source.remaining c.args.reader.now) (g.W.Sink.contents c.args.writer.now) (g.R.Source.remaining c.args.reader.now) no_lines refl, c.requires.unfailed.0, c.requires.unfailed.1))

pub returns : goal.returns
returns g c = (c.run_lines_with.new.lines, c.run_lines_with.ensures)
