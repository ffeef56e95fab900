-- One more use in its group, and bindings that no use resolves to.
use Rattle.std.proofs.Common.{◌≡◌, ℕ, List, [], ◌∷◌, ◌++◌, Option, Some, None, Bool, true, false, cond, refl, sym, ap, ◌∙◌, nat_eq, rules}
use Rattle.std.proofs.Common.{length, arith, take, get_or, ◌+◌, ◌<◌}
use Rattle.std.proofs.lemmas.Bool.{ne_eqb, eq-eqb}
use Rattle.std.proofs.lemmas.{Cmp.ranked, Cmp.nat_cmp_total, List.append-nil, List.take_more, List.Elements.filter-append}
use Rattle.std.proofs.lemmas.{List.Sums.fold-append, Bool.eqb-true}
use Rattle.std.specs.FinMap as map
use Rattle.std.specs.{List.filter, List.list_any}
use Rattle.std.specs.Ordering.{nat_cmp, eq_by_cmp, is_eq, MatchOrdering}
use Rattle.std.specs.{Option.unwrap_or, Prelude.not, Prelude.is_some, Prelude.◌||◌, declared.cmp.Ordering.Ordering}
use Rattle.hir_captures.specs.Captures.{with_new}
use Rattle.hir_usages.specs.Usages.{resolves_to, usages_of, unresolved_in, is_unused, unused_among}
use Rattle.hir_usages.specs.declared.usage.Usage.{Usage}
use Rattle.hir_usages.specs.Groups.{AreGroups, or_none}
use Rattle.std.proofs.lemmas.Grind.{common_steps}

-- 1. Groups

abbrev pub Groups : Type 0
Groups = map.FinMap nat_cmp (List Usage)

is_tie : (r : Ordering) (y x : ℕ) → MatchOrdering r (y < x) (y ≡ x) (x < y) → is_eq r ≡ nat_eq x y
is_tie Ordering.Less y x h = sym (ne_eqb x y (λ e. omega (arith, h, e)))
is_tie Ordering.Equal y x h = sym (eq-eqb x y (sym h))
is_tie Ordering.Greater y x h = sym (ne_eqb x y (λ e. omega (arith, h, e)))

tied : (y x : ℕ) → eq_by_cmp nat_cmp y x ≡ nat_eq x y
tied y x = is_tie (nat_cmp y x) y x (ranked y x (nat_cmp y x) refl)

pub no_groups : AreGroups [] map.empty []
no_groups = record { each = λ b. ap or_none (map.get-empty nat_cmp b); rest = refl }

-- a list that is taken out, gets one use more and is put back
put_back : (m more : Groups) (x : ℕ) (a b : List Usage) (usage : Usage) → more
    ≡ map.insert (map.insert m x a) x b → b ≡ or_none (map.get m x) ++ usage ∷ [] →
    (q : ℕ) → or_none (map.get more q) ≡ or_none (map.get m q) ++ cond (nat_eq x q) (usage ∷ []) []
put_back m more x a b usage e is q =
    ap (λ (g : Groups). or_none (map.get g q)) e
    ∙ (ap or_none (map.get-insert nat_cmp_total (map.insert m x a) x b q ∙ ap (cond (eq_by_cmp nat_cmp q x) (Some b))
    (map.get-insert nat_cmp_total m x a q))
    ∙ at (eq_by_cmp nat_cmp q x) (nat_eq x q) (tied q x) refl) where
      at : (s t : Bool) → s ≡ t → nat_eq x q ≡ t → or_none (cond s (Some b) (cond s (Some a) (map.get m q)))
          ≡ or_none (map.get m q) ++ cond t (usage ∷ []) []
      at true true h same = is ∙ ap (λ (y : ℕ). or_none (map.get m y) ++ usage ∷ []) (eqb-true x q same)
      at true false h same = absurd cc
      at false true h same = absurd cc
      at false false h same = sym (append-nil (or_none (map.get m q)))

module _ (before : List Usage) (usage : Usage) where
  -- the unresolved uses, with one more
  rest_more : (o : Option ℕ) → usage.binding ≡ o → unresolved_in (before ++ usage ∷ [])
      ≡ unresolved_in before ++ cond (not (is_some o)) (usage ∷ []) []
  rest_more o is = search (rules, filter-append)

  pub one_more_of : (groups more : Groups) (unresolved : List Usage) (x : ℕ) (a b : List Usage) →
      AreGroups before groups unresolved → usage.binding ≡ Some x → more ≡ map.insert (map.insert groups x a) x b →
      b ≡ or_none (map.get groups x) ++ usage ∷ [] → AreGroups (before ++ usage ∷ []) more unresolved
  one_more_of groups more unresolved x a b h is e adds =
      grind (arith, common_steps, append-nil, rest_more, put_back groups more x a b usage e adds)

  pub one_more_unresolved : (groups : Groups) (unresolved : List Usage) → AreGroups before groups unresolved →
      usage.binding ≡ None → AreGroups (before ++ usage ∷ []) groups (unresolved ++ usage ∷ [])
  one_more_unresolved groups unresolved h is = grind (arith, common_steps, append-nil, rest_more)

-- a list that is taken out, or none
pub unwrapped : (o p : Option (List Usage)) (none : List Usage) → none ≡ [] → o ≡ p → unwrap_or o none ≡ or_none p
unwrapped None p none e is = e ∙ ap or_none is
unwrapped (Some us) p none e is = ap or_none is

-- 2. Bindings that no use resolves to

module _ {X : Type 0} (p : X → Bool) where
  pub none_found : (xs : List X) → length (filter p xs) ≡ 0 → list_any p xs ≡ false
  none_found [] h = refl
  none_found (x ∷ xs) h = at (p x) h (none_found xs) where
    at : (t : Bool) → length (cond t (x ∷ filter p xs) (filter p xs)) ≡ 0 →
        (length (filter p xs) ≡ 0 → list_any p xs ≡ false) → (t || list_any p xs) ≡ false
    at true l rest = absurd (omega (arith, l))
    at false l rest = rest l

  pub one_found : (xs : List X) → 0 < length (filter p xs) → list_any p xs ≡ true
  one_found [] h = absurd (omega (arith, h))
  one_found (x ∷ xs) h = at (p x) h (one_found xs) where
    at : (t : Bool) → 0 < length (cond t (x ∷ filter p xs) (filter p xs)) →
        (0 < length (filter p xs) → list_any p xs ≡ true) → (t || list_any p xs) ≡ true
    at true l rest = refl
    at false l rest = rest l

module _ (usages : List Usage) (b : ℕ) where
  pub is_unused_where : (found : List Usage) → found ≡ usages_of b usages → length found ≡ 0 → is_unused usages b ≡ true
  is_unused_where found e l = ap not (none_found (resolves_to b) usages (ap (length {A = Usage}) (sym e) ∙ l))

  pub is_used_where : (found : List Usage) → found ≡ usages_of b usages → 0 < length found → is_unused usages b ≡ false
  is_used_where found e l = ap not (one_found (resolves_to b) usages (omega (arith, l, ap (length {A = Usage}) e)))

  pub unused_more : (xs : List ℕ) (t : Bool) → is_unused usages b ≡ t → unused_among usages (xs ++ b ∷ [])
      ≡ cond t (with_new (unused_among usages xs) b) (unused_among usages xs)
  unused_more xs t e = search (rules, filter-append, fold-append)

-- one use more, at an index
pub takes_of : (b : ℕ) (us : List Usage) (i : ℕ) (d : Usage) → i < length us → usages_of b (take (i + 1) us)
    ≡ usages_of b (take i us) ++ cond (resolves_to b (get_or us i d)) (get_or us i d ∷ []) []
takes_of b us i d l = ap (usages_of b) (take_more us i d l) ∙ filter-append (resolves_to b) (take i us) (get_or us i d ∷ [])

pub ruleset grouping = (no_groups, one_more_unresolved)
