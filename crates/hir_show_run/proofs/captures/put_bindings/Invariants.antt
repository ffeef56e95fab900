use Rattle.std.proofs.Common.{take}
use Rattle.hir_show_run.specs.Answer.{after_spaces}
use Rattle.hir_show_run.specs.internal.Output.{OutputsText}
use Rattle.hir_show_run.proofs.captures.put_bindings.Given as goal

abbrev pub invariant-loop-binding : goal.invariant-loop-binding
invariant-loop-binding g l = OutputsText g.W.Sink l.fn.output l.output (after_spaces (take l.binding-index l.bindings))
