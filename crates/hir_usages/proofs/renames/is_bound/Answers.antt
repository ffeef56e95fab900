use Rattle.std.proofs.Common.{◌≡◌, ◌∙◌, ℕ, Some, sym, subst}
use Rattle.std.specs.List.{slice_get}
use Rattle.std.specs.Prelude.{option_map}
use Rattle.hir_scope.specs.Scopes.{Scope}
use Rattle.hir_usages.proofs.RenameLemmas.{bound_here, bound_later}
use Rattle.hir_usages.proofs.renames.is_bound.Goals as goal

pub returns-then-has_entry : goal.returns-then-has_entry
returns-then-has_entry c =
    let scopes = c.args.scopes.now.scopes in
    let es = c.entries.result.now in
    let here =
    subst (λ (k : ℕ). option_map (λ (s : Scope). s.entries) (slice_get scopes k)
    ≡ Some es) c.from_raw.ensures c.entries.ensures in
    bound_here scopes c.loop-next.next es here c.args.binding c.loop-next.invariant (sym c.has_entry.ensures ∙ c.if-has_entry.true)

pub loop-next-preserved : goal.loop-next-preserved
loop-next-preserved c =
    let scopes = c.args.scopes.now.scopes in
    let es = c.entries.result.now in
    let here =
    subst (λ (k : ℕ). option_map (λ (s : Scope). s.entries) (slice_get scopes k)
    ≡ Some es) c.from_raw.ensures c.entries.ensures in
    bound_later scopes c.loop-next.next es here c.args.binding c.loop-next.invariant (sym c.has_entry.ensures ∙ c.if-has_entry.false)
