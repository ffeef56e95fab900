use Rattle.std.proofs.Common.{subst}
use Rattle.hir_base.specs.declared.hygiene.SyntaxContext.{SyntaxContext}
use Rattle.hir_show_run.specs.Answer.{expansion_text}
use Rattle.hir_show_run.specs.internal.Output.{OutputsText}
use Rattle.hir_show_run.proofs.WritingLemmas.{put_none}
use Rattle.hir_show_run.proofs.scope_answers.put_expansion.Goals as goal

pub returns-in-Root : goal.returns-in-Root
returns-in-Root g c =
    subst (λ (h : SyntaxContext). OutputsText g.W.Sink c.args.output.now c.args.output.now (expansion_text h)) c.in-Root.ensures (put_none g.W.Sink c.args.output.now)

pub returns-in-Expansion : goal.returns-in-Expansion
returns-in-Expansion g c =
    subst (λ (h : SyntaxContext). OutputsText g.W.Sink c.args.output.now c.put_spaced.new.self (expansion_text h)) c.in-Expansion.ensures c.put_spaced.ensures
