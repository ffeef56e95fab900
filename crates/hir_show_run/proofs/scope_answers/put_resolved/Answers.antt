use Rattle.std.proofs.Common.{◌≡◌, ℕ, Option, Some, ◌∙◌, subst, codes, decimal, option_map}
use Rattle.hir_scope.specs.Paths.{chain}
use Rattle.hir_scope.specs.declared.scope.ScopeEntry.{ScopeEntry}
use Rattle.hir_show_run.specs.Answer.{resolve_text, resolved_text}
use Rattle.hir_show_run.specs.internal.Output.{OutputsText}
use Rattle.hir_show_run.proofs.WritingLemmas.{put_then}
use Rattle.hir_show_run.proofs.scope_answers.put_resolved.Goals as goal

pub returns-in-Some-resolve_name_in_scope : goal.returns-in-Some-resolve_name_in_scope
returns-in-Some-resolve_name_in_scope g c =
    let number : c.into_raw.result ≡ c.in-Some-resolve_name_in_scope.entry.now.binding = c.into_raw.ensures ∙ c.binding.ensures in
    let found = subst (λ (r : Option ScopeEntry). OutputsText g.W.Sink c.args.output.now c.put_number.new.self (resolved_text r)) c.in-Some-resolve_name_in_scope.ensures
    (rw (← number) (put_then g.W.Sink c.args.output.now c.put.new.self c.put_number.new.self (codes " = ") (decimal c.into_raw.result) c.put.ensures c.put_number.ensures)) in
    subst (λ (s : Option ℕ). OutputsText g.W.Sink c.args.output.now c.put_number.new.self (resolve_text (option_map (λ scope. chain c.args.scopes.now.scopes (Some scope)) s) c.args.name.now c.args.hygiene)) c.in-Some.ensures.scope found

pub returns-in-None-resolve_name_in_scope : goal.returns-in-None-resolve_name_in_scope
returns-in-None-resolve_name_in_scope g c =
    let none = subst (λ (r : Option ScopeEntry). OutputsText g.W.Sink c.args.output.now c.put-in-None-resolve_name_in_scope.new.self (resolved_text r)) c.in-None-resolve_name_in_scope.ensures c.put-in-None-resolve_name_in_scope.ensures in
    subst (λ (s : Option ℕ). OutputsText g.W.Sink c.args.output.now c.put-in-None-resolve_name_in_scope.new.self (resolve_text (option_map (λ scope. chain c.args.scopes.now.scopes (Some scope)) s) c.args.name.now c.args.hygiene)) c.in-Some.ensures.scope none

pub returns-in-None : goal.returns-in-None
returns-in-None g c =
    subst (λ (s : Option ℕ). OutputsText g.W.Sink c.args.output.now c.put-in-None.new.self (resolve_text (option_map (λ scope. chain c.args.scopes.now.scopes (Some scope)) s) c.args.name.now c.args.hygiene)) c.in-None.ensures.scope c.put-in-None.ensures
