use Rattle.std.proofs.Common.{ℕ, Option, Some, subst, codes, option_map}
use Rattle.hir_scope.specs.Paths.{chain}
use Rattle.hir_scope.specs.Resolution.{entries_of}
use Rattle.hir_show_run.specs.Answer.{chain_text, names_text}
use Rattle.hir_show_run.specs.internal.Output.{OutputsText}
use Rattle.hir_show_run.proofs.WritingLemmas.{put_then}
use Rattle.hir_show_run.proofs.scope_answers.put_known.Goals as goal

pub returns-in_default : goal.returns-in_default
returns-in_default g c =
    subst (λ (s : Option ℕ). OutputsText g.W.Sink c.args.output.now c.put.new.self (chain_text (option_map (λ scope. chain c.args.scopes.now.scopes (Some scope)) s))) c.in_default.ensures.scope c.put.ensures

pub returns : goal.returns
returns g c =
    subst (λ (s : Option ℕ). OutputsText g.W.Sink c.args.output.now c.put_chain.new.output (chain_text (option_map (λ scope. chain c.args.scopes.now.scopes (Some scope)) s))) c.in-Some.ensures.scope
    (put_then g.W.Sink c.args.output.now c.put-2.new.self c.put_chain.new.output (codes " =") (names_text (entries_of (chain c.args.scopes.now.scopes (Some c.in-Some.scope)))) c.put-2.ensures c.put_chain.ensures)
