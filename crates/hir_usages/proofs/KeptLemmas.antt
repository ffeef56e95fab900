-- There is no conflict exactly where each use resolves to what it resolved to before.
use Rattle.std.proofs.Common.{◌≡◌, ℕ, List, [], ◌∷◌, Option, Some, None, Bool, true, false, cond, refl, ap, rules}
use Rattle.std.proofs.lemmas.Bool.{eqb-true, eq-eqb}
use Rattle.std.proofs.lemmas.List.Elements.{All-from_recursion, recursion_from_All}
use Rattle.std.specs.{Bool.Decides, List.All, List.AllByRecursion, Option.option_or, Prelude.◌↔◌}
use Rattle.hir_store_core.specs.Contents.{Contents}
use Rattle.hir_scope.specs.Scopes.{Scopes}
use Rattle.hir_usages.specs.Renames.{is_same, conflict_of, conflict_at, first_conflict, resolved_after}
use Rattle.hir_usages.specs.{Usages.resolves_to, declared.rename_fault.RenameFault.RenameFault, declared.usage.Usage.Usage}

pub same_decides : (x y : Option ℕ) → Decides (is_same x y) (x ≡ y)
same_decides None None = (λ t. refl, λ e. refl)
same_decides None (Some y) = (λ t. absurd cc, λ e. absurd cc)
same_decides (Some x) None = (λ t. absurd cc, λ e. absurd cc)
same_decides (Some x) (Some y) = (λ t. ap (λ (n : ℕ). Some n) (eqb-true x y t), λ e. let n : x ≡ y = cc in eq-eqb x y n)

module _ (c : Contents) (scopes : Scopes) (b : ℕ) (name : List ℕ) where
  abbrev after : Usage → Option ℕ
  after u = resolved_after c scopes b name u

  abbrev Keeps : Usage → Type 0
  Keeps u = after u ≡ u.binding

  no_conflict : (u : Usage) → conflict_at c scopes b name u ≡ None → Keeps u
  no_conflict u h = at (is_same (after u) u.binding) refl h where
    at : (t : Bool) → is_same (after u) u.binding ≡ t → cond t None (Some (conflict_of u (resolves_to b u) (after u))) ≡ None → Keeps u
    at true e q = (same_decides (after u) u.binding).0 e
    at false e q = absurd cc

  no_change : (u : Usage) → Keeps u → conflict_at c scopes b name u ≡ None
  no_change u h = ap (λ (t : Bool). cond t None (Some (conflict_of u (resolves_to b u) (after u)))) ((same_decides (after u) u.binding).1 h)

  both_none : (o p : Option RenameFault) → option_or o p ≡ None → (o ≡ None) × (p ≡ None)
  both_none None p h = (refl, h)
  both_none (Some x) p h = absurd cc

  each_kept : (us : List Usage) → first_conflict c scopes b name us ≡ None → AllByRecursion Keeps us
  each_kept [] h = tt
  each_kept (u ∷ us) h =
      let r = both_none (conflict_at c scopes b name u) (first_conflict c scopes b name us) h in
      (no_conflict u r.0, each_kept us r.1)

  none_first : (us : List Usage) → AllByRecursion Keeps us → first_conflict c scopes b name us ≡ None
  none_first [] h = refl
  none_first (u ∷ us) h = search (rules, no_change, none_first us h.1)

pub kept_exactly : (c : Contents) (scopes : Scopes) (b : ℕ) (name : List ℕ) (us : List Usage) →
    (first_conflict c scopes b name us ≡ None) ↔ All (λ (u : Usage). resolved_after c scopes b name u ≡ u.binding) us
kept_exactly c scopes b name us = search (rules, All-from_recursion, each_kept, none_first, recursion_from_All)
