use Rattle.std.proofs.Common.{◌∷◌}
use Rattle.hir_show_run.specs.Answer.{expansion_text}
use Rattle.hir_show_run.proofs.WritingLemmas.{put_then}
use Rattle.hir_show_run.proofs.scope_answers.put_asked_name.Goals as goal

pub returns : goal.returns
returns g c =
    put_then g.W.Sink c.args.output.now c.put_name.new.output c.put_expansion.new.output (32 ∷ c.args.name.now) (expansion_text c.args.hygiene) c.put_name.ensures c.put_expansion.ensures
