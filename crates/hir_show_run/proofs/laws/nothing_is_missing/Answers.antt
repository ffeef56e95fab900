use Rattle.hir_show_run.specs.Parts.{body_parts}
use Rattle.hir_show_run.specs.Program.{built_by, script}
use Rattle.hir_show_run.proofs.OfLinesLemmas.{made_of_lines}
use Rattle.hir_show_run.proofs.OutsideLemmas.{nothing_missing}
use Rattle.hir_show_run.proofs.laws.nothing_is_missing.Goals as goal

pub returns : goal.returns
returns c texts name = nothing_missing name (body_parts (built_by (script texts))) (made_of_lines c.said_is_written.ensures texts)
