use Rattle.std.proofs.Common.{take}
use Rattle.hir_show_run.specs.Answer.{names_text}
use Rattle.hir_show_run.specs.internal.Output.{OutputsText}
use Rattle.hir_show_run.proofs.scope_answers.put_names.Given as goal

abbrev pub invariant-loop-entry : goal.invariant-loop-entry
invariant-loop-entry g l = OutputsText g.W.Sink l.fn.output l.output (names_text (take l.entry-index l.entries))
