-- That the test of compared parts decides whether they are the same, and so is an equivalence.
use Rattle.std.specs.Prelude.{◌≡◌, ℕ, Bool, ◌&&◌, Option, Some, None}
use Rattle.std.specs.Bool.{Decides, one_answer}
use Rattle.std.specs.Option.{option_eq, option_map}
use Rattle.std.specs.Cmp.{IsEquivalence, IsPartialEquivalence, partial_equiv_from_equiv, first_so, second_so}
use Rattle.std.specs.Cmp.Lexicographic.{nat_list_cmp_total, pointwise_decides}
use Rattle.std.proofs.Common.{sym, ◌∙◌, refl}
use Rattle.hir_collections.specs.Maps.{same_maps_decides}
use Rattle.hir_collections.specs.Table.{by_code-IsAntisymmetric}
use Rattle.hir_source_map.specs.declared.diagnostics.ExpressionStoreDiagnostics.{ExpressionStoreDiagnostics}
use Rattle.hir_source_map.specs.declared.sources.ExprSources.{ExprSources}
use Rattle.hir_source_map.specs.declared.source_map.ExpressionStoreSourceMap.{ExpressionStoreSourceMap}
use Rattle.hir_source_map.specs.Sources.{Source}
use Rattle.hir_source_map.specs.ComparedPart.{compared_exprs, compared_part, same_exprs, same_compared}

-- two tests, one after the other
both : {P Q : Type 0} (a b : Bool) → Decides a P → Decides b Q → Decides (a && b) (P × Q)
both a b p q = (
  λ h. (p.0 (first_so a b h), q.0 (second_so a b h)),
  λ r. let at_a = p.1 r.0 in let at_b = q.1 r.1 in rw (at_a, at_b),
)

-- the same fact in other words
in_words : {P Q : Type 0} {a : Bool} → Decides a P → (P → Q) → (Q → P) → Decides a Q
in_words d to from = (λ h. to (d.0 h), λ q. d.1 (from q))

same_value : {X : Type 0} (x y : X) → Some x ≡ Some y → x ≡ y
same_value x y e = cc

-- a test of optional values that decides whether f gives the same for them
options : {X Y : Type 0} {E : X → X → Bool} (f : X → Y) → ((x y : X) → Decides (E x y) (f x ≡ f y))
    → (x y : Option X) → Decides (option_eq E x y) (option_map f x ≡ option_map f y)
options f d None None = (λ h. refl, λ e. refl)
options f d None (Some y) = (λ h. absurd (cc), λ e. absurd (cc))
options f d (Some x) None = (λ h. absurd (cc), λ e. absurd (cc))
options f d (Some x) (Some y) = (λ h i. Some ((d x y).0 h i), λ e. (d x y).1 (same_value _ _ e))

-- a test that decides whether f gives the same for two values is an equivalence
equivalence : {X Y : Type 0} {E : X → X → Bool} (f : X → Y) → ((x y : X) → Decides (E x y) (f x ≡ f y))
    → IsEquivalence E
equivalence {E = E} f d = record {
  refl = λ x. (d x x).1 refl;
  symm = λ x y. one_answer (E x y) (E y x) (d x y) (in_words (d y x) sym sym);
  congr = λ x y z h. one_answer (E x z) (E y z) (d x z)
      (in_words (d y z) (λ e. (d x y).0 h ∙ e) (λ e. sym ((d x y).0 h) ∙ e));
}

module _ {S : Source → Source → Bool} {C : ℕ → ℕ → Bool} {D : ExpressionStoreDiagnostics
    → ExpressionStoreDiagnostics → Bool}
    (s : (x y : Source) → Decides (S x y) (x ≡ y)) (c : (x y : ℕ)
    → Decides (C x y) (x ≡ y)) (d : (x y : ExpressionStoreDiagnostics) → Decides (D x y) (x ≡ y)) where
  parts_decide : (p q : ExprSources) → Decides (same_exprs S C D p q) (compared_exprs p ≡ compared_exprs q)
  parts_decide p q =
      let sources = same_maps_decides nat_list_cmp_total S by_code-IsAntisymmetric s in
      let calls = same_maps_decides nat_list_cmp_total C by_code-IsAntisymmetric c in
      in_words (both _ _ (both _ _ (both _ _ (both _ _ (sources p.expr_map_back q.expr_map_back)
      (sources p.pat_map_back q.pat_map_back)) (sources p.label_map_back q.label_map_back))
      (calls p.expansions q.expansions)) (pointwise_decides d p.diagnostics q.diagnostics))
      (λ r i. record {
        exprs = r.0.0.0.0 i;
        pats = r.0.0.0.1 i;
        labels = r.0.0.1 i;
        expansions = r.0.1 i;
        diagnostics = r.1 i;
      })
      (λ e. (
        (((λ i. (e i).exprs, λ i. (e i).pats), λ i. (e i).labels), λ i. (e i).expansions),
        λ i.
            (e i).diagnostics,
      ))

  pub compared_decides : (x y : ExpressionStoreSourceMap)
      → Decides (same_compared S C D x y) (compared_part x ≡ compared_part y)
  compared_decides x y =
      let sources = same_maps_decides nat_list_cmp_total S by_code-IsAntisymmetric s in
      in_words (both _ _ (both _ _ (options compared_exprs parts_decide x.exprs y.exprs)
      (sources x.types.type_map_back y.types.type_map_back))
      (sources x.types.lifetime_map_back y.types.lifetime_map_back))
      (λ r i. record { kept = r.0.0 i; types = r.0.1 i; lifetimes = r.1 i })
      (λ e. ((λ i. (e i).kept, λ i. (e i).types), λ i. (e i).lifetimes))

  pub compared_equiv : IsEquivalence (same_compared S C D)
  compared_equiv = equivalence compared_part compared_decides

  pub compared_per : IsPartialEquivalence (same_compared S C D)
  compared_per = partial_equiv_from_equiv compared_equiv
