-- Defines equality of finite maps, which have the same keys with equal values, and its theorems.
use Rattle.std.proofs.Common.{◌≡◌, Bool, true, ◌&&◌, ap, sym, ◌∙◌, Decides}
use Rattle.std.specs.declared.cmp.Ordering.{Ordering}
use Rattle.std.specs.declared.cmp.Ordering.TheVariants.{Less, Equal, Greater}
use Rattle.std.specs.Ordering.{eq_by_cmp, is_eq}
use Rattle.std.specs.Cmp.{IsTotalOrder, IsEquivalence, IsPartialEquivalence, tied_itself, eq_by_cmp_equiv, on_equiv, on_per, and_equiv, and_per, partial_equiv_from_equiv, first_so, second_so}
use Rattle.std.specs.Cmp.Lexicographic.{pointwise, pointwise_decides, lists_equiv, lists_per}
use Rattle.std.specs.FinMap as map

module _ {K X : Type 0} (R : K → K → Ordering) (E : X → X → Bool) where
  -- both the keys and the values are equal
  abbrev pub same_entry : K × X → K × X → Bool
  same_entry p q = eq_by_cmp R p.0 q.0 && E p.1 q.1

  -- the maps have the same keys, and equal values at each
  abbrev pub same_maps : map.FinMap R X → map.FinMap R X → Bool
  same_maps m n = pointwise same_entry (map.entries m) (map.entries n)

equal_of : (o : Ordering) → is_eq o ≡ true → o ≡ Equal
equal_of Less h = absurd (cc)
equal_of Equal h = λ i. Equal
equal_of Greater h = absurd (cc)

pub same_key : {K : Type 0} {R : K → K → Ordering} → IsTotalOrder R → map.IsAntisymmetric R → (x y : K)
    → Decides (eq_by_cmp R x y) (x ≡ y)
same_key {R = R} o same x y = (
  λ h. same x y (equal_of (R x y) h),
  λ e.
      ap is_eq (ap (R x) (sym e) ∙ tied_itself o x),
)

module _ {K X : Type 0} {R : K → K → Ordering} (o : IsTotalOrder R) (E : X → X → Bool) where
  pub same_maps_per : IsPartialEquivalence E → IsPartialEquivalence (same_maps R E)
  same_maps_per laws = on_per map.entries (lists_per
      (and_per (on_per (λ p. p.0) (partial_equiv_from_equiv (eq_by_cmp_equiv o))) (on_per (λ p. p.1) laws)))

  pub same_maps_equiv : IsEquivalence E → IsEquivalence (same_maps R E)
  same_maps_equiv laws = on_equiv map.entries (lists_equiv
      (and_equiv (on_equiv (λ p. p.0) (eq_by_cmp_equiv o)) (on_equiv (λ p. p.1) laws)))

  module _ (same : map.IsAntisymmetric R) (decides : (x y : X) → Decides (E x y) (x ≡ y)) where
    same_entry_decides : (p q : K × X) → Decides (same_entry R E p q) (p ≡ q)
    same_entry_decides p q = (
      λ h.
          let key = (same_key o same p.0 q.0).0 (first_so _ _ h) in
          let value = (decides p.1 q.1).0 (second_so _ _ h) in
          λ i. (key i, value i),
      λ e.
          let key = (same_key o same p.0 q.0).1 (ap (λ x. x.0) e) in
          let value = (decides p.1 q.1).1 (ap (λ x. x.1) e) in
          rw (key, value),
    )

    pub same_maps_decides : (m n : map.FinMap R X) → Decides (same_maps R E m n) (m ≡ n)
    same_maps_decides m n =
        let entries = pointwise_decides same_entry_decides (map.entries m) (map.entries n) in
        (λ h. map.same_entries_map m n (entries.0 h), λ e. entries.1 (ap map.entries e))
