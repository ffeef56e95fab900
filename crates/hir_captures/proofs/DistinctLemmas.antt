-- A mark for each number that is listed.
use Rattle.std.proofs.Common.{◌≡◌, ℕ, ◌<◌, List, [], ◌∷◌, ◌++◌, Some, refl, sym, ap, ◌∙◌, arith, nat_eq, Bool, true, false, cond}
use Rattle.std.proofs.lemmas.Bool.{ne_eqb, eq-eqb}
use Rattle.std.proofs.lemmas.{Cmp.ranked, Cmp.nat_cmp_total, List.Folds.list_any-append}
use Rattle.std.specs.FinMap as map
use Rattle.std.specs.Ordering.{nat_cmp, eq_by_cmp, is_eq, MatchOrdering}
use Rattle.std.specs.{Prelude.is_some, Prelude.◌||◌, declared.cmp.Ordering.Ordering}
use Rattle.hir_captures.specs.Captures.{with_new}
use Rattle.hir_captures.specs.internal.Marks.{is_listed, AreMarks}

or_true : (b : Bool) → (b || (true || false)) ≡ true
or_true true = refl
or_true false = refl

or_false : (b : Bool) → (b || (false || false)) ≡ b
or_false true = refl
or_false false = refl

is_tie : (r : Ordering) (y x : ℕ) → MatchOrdering r (y < x) (y ≡ x) (x < y) → is_eq r ≡ nat_eq x y
is_tie Ordering.Less y x h = sym (ne_eqb x y (λ e. omega (arith, h, e)))
is_tie Ordering.Equal y x h = sym (eq-eqb x y (sym h))
is_tie Ordering.Greater y x h = sym (ne_eqb x y (λ e. omega (arith, h, e)))

tied : (y x : ℕ) → eq_by_cmp nat_cmp y x ≡ nat_eq x y
tied y x = is_tie (nat_cmp y x) y x (ranked y x (nat_cmp y x) refl)

pub marks_none : (X : Type 0) → AreMarks {X = X} [] map.empty
marks_none X x = ap is_some (map.get-empty nat_cmp x)

-- one more is listed, and marked
pub marks_more : {X : Type 0} (found : List ℕ) (marks : map.FinMap nat_cmp X) (x : ℕ) (v : X) → AreMarks found marks →
    AreMarks (found ++ x ∷ []) (map.insert marks x v)
marks_more {X} found marks x v h y =
    ap is_some (map.get-insert nat_cmp_total marks x v y)
    ∙ at (eq_by_cmp nat_cmp y x) (nat_eq x y) (tied y x)
    ∙ sym (list_any-append (λ z. nat_eq z y) found (x ∷ [])) where
      at : (b c : Bool) → b ≡ c → is_some (cond b (Some v) (map.get marks y)) ≡ (is_listed found y || (c || false))
      at true true e = sym (or_true (is_listed found y))
      at true false e = absurd cc
      at false true e = absurd cc
      at false false e = h y ∙ sym (or_false (is_listed found y))

pub not_new : (found : List ℕ) (x : ℕ) → is_listed found x ≡ true → with_new found x ≡ found
not_new found x e = ap (λ b. cond b found (found ++ x ∷ [])) e

pub is_new : (found : List ℕ) (x : ℕ) → is_listed found x ≡ false → with_new found x ≡ found ++ x ∷ []
is_new found x e = ap (λ b. cond b found (found ++ x ∷ [])) e

pub ruleset marking = (marks_none, marks_more, not_new, is_new)
