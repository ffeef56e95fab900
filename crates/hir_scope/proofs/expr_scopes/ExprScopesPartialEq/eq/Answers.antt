use Rattle.std.proofs.Common.{◌≡◌, ◌∙◌, sym, refl, true, false}
use Rattle.hir_scope.specs.same.SameScopes.{same_scopes}
use Rattle.hir_scope.proofs.SameLemmas.{all_tests}
use Rattle.hir_scope.proofs.expr_scopes.ExprScopesPartialEq.eq.Goals.{then-eq, else-eq}
use Rattle.hir_scope.proofs.expr_scopes.ExprScopesPartialEq.eq.Goals as goal

pub returns-then-eq-2 : goal.returns-then-eq-2
returns-then-eq-2 c =
    let i = c.self.inside in
    let j = c.other.inside in
    let all = all_tests i.entries.items j.entries.items i.scopes.items j.scopes.items i.scope_by_expr j.scope_by_expr
    c.self.invariant c.other.invariant in
    elim c.if-eq.branch [
      | then-eq w ↦
          all true true c.eq-then-eq-2.result (sym w.if-eq.true ∙ c.eq.ensures)
          (sym c.if-eq-2.true ∙ w.value-is ∙ w.eq-then-eq.ensures) c.eq-then-eq-2.ensures
          ∙ (λ k. same_scopes (c.self.view_is k) (c.other.view_is k))
      | else-eq w ↦ let z : false ≡ true = sym w.if-eq.false ∙ sym w.value-is ∙ c.if-eq-2.true in absurd cc
    ]

pub returns-else-eq-2 : goal.returns-else-eq-2
returns-else-eq-2 c =
    let i = c.self.inside in
    let j = c.other.inside in
    let all = all_tests i.entries.items j.entries.items i.scopes.items j.scopes.items i.scope_by_expr j.scope_by_expr
    c.self.invariant c.other.invariant in
    elim c.if-eq.branch [
      | then-eq w ↦
          c.if-eq-2.false
          ∙ all true false _ (sym w.if-eq.true ∙ c.eq.ensures) (sym c.if-eq-2.false ∙ w.value-is ∙ w.eq-then-eq.ensures) refl
          ∙ (λ k. same_scopes (c.self.view_is k) (c.other.view_is k))
      | else-eq w ↦
          c.if-eq-2.false
          ∙ all false _ _ (sym w.if-eq.false ∙ c.eq.ensures) refl refl
          ∙ (λ k. same_scopes (c.self.view_is k) (c.other.view_is k))
    ]
