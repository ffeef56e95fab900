use Rattle.hir_show_run.specs.internal.Output.{OutputsText}
use Rattle.hir_show_run.proofs.WritingLemmas.{names_along}
use Rattle.hir_show_run.proofs.scope_answers.put_chain.Given as goal

abbrev pub invariant-loop-around : goal.invariant-loop-around
invariant-loop-around g l = OutputsText g.W.Sink l.fn.output l.output (names_along l.scopes.scopes l.yielded)
