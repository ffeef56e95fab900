-- Places that are named by their numbers, as a finite map: what a look-up, a write and a comparison mean.
use Rattle.std.proofs.Common.{◌≡◌, ℕ, suc, zero, ◌+◌, ◌-◌, ◌<◌, ◌≤◌, ◌==◌, Bool, true, false, cond, ◌&&◌, T, List, [], ◌∷◌, ◌++◌, length, get_or, set, replicate, refl, ap, sym, ◌∙◌, subst, IsTrue, arith, zero-add}
use Rattle.std.specs.Prelude.{Option, Some, None}
use Rattle.std.specs.declared.cmp.Ordering.TheVariants.{Less, Greater}
use Rattle.std.specs.Ordering.{nat_cmp, eq_by_cmp, is_lt, is_eq}
use Rattle.std.specs.Option.{option_eq}
use Rattle.std.specs.Cmp.{nat_cmp_total, nat_cmp_is, unsigned_tied, tied_itself}
use Rattle.std.specs.Cmp.Lexicographic.{pointwise}
use Rattle.std.specs.FinMap as map
use Rattle.std.specs.FinMap.Entries.{find, is_sorted, below_all}
use Rattle.std.proofs.lemmas.Bool.Decides.{nat_tests}
use Rattle.std.proofs.lemmas.List.{get_or_append_left, get_or_past, get_or-set_same, get_or-set_other, length-append, length-replicate, get_or-replicate, get_or-append_right}
use Rattle.std.proofs.Math.Seq.{get_or-append_seam}
use Rattle.hir_collections.specs.Places.{entries_from, map_of, ends_full}
use Rattle.hir_collections.specs.Maps.{same_entry, same_maps}

both : (a b : Bool) → T a → T b → T (a && b)
both true b p q = q
both false b p q = p

is_less : (m n : ℕ) → m < n → nat_cmp m n ≡ Less
is_less m n h = sym (nat_cmp_is m n Less h)

apart : (m n : ℕ) → m < n → eq_by_cmp nat_cmp m n ≡ false
apart m n h = ap is_eq (is_less m n h)

itself : (n : ℕ) → eq_by_cmp nat_cmp n n ≡ true
itself n = ap is_eq (tied_itself nat_cmp_total n)

module _ {V : Type 0} where
  below : (m n : ℕ) (xs : List (Option V)) → m < n → T (below_all nat_cmp m (entries_from n xs))
  below m n [] h = tt
  below m n (None ∷ xs) h = below m (n + 1) xs (omega arith)
  below m n (Some v ∷ xs) h = both _ _ (subst (λ o. T (is_lt o)) (sym (is_less m n h)) tt) (below m (n + 1) xs (omega arith))

  sorted : (n : ℕ) (xs : List (Option V)) → T (is_sorted nat_cmp (entries_from n xs))
  sorted n [] = tt
  sorted n (None ∷ xs) = sorted (n + 1) xs
  sorted n (Some v ∷ xs) = both _ _ (below n (n + 1) xs (omega arith)) (sorted (n + 1) xs)

  none_below : (q n : ℕ) (xs : List (Option V)) → q < n → find nat_cmp q (entries_from n xs) ≡ None
  none_below q n [] h = refl
  none_below q n (None ∷ xs) h = none_below q (n + 1) xs (omega arith)
  none_below q n (Some v ∷ xs) h = ap (λ b. cond b (Some v) (find nat_cmp q (entries_from (n + 1) xs))) (apart q n h) ∙ none_below q (n + 1) xs (omega arith)

  find_place : (n q : ℕ) (xs : List (Option V)) → find nat_cmp (n + q) (entries_from n xs) ≡ get_or xs q None
  find_place n q [] = sym (get_or_past [] q None (omega arith))
  find_place n zero (None ∷ xs) = none_below (n + 0) (n + 1) xs (omega arith)
  find_place n (suc q) (None ∷ xs) =
      let e : n + suc q ≡ (n + 1) + q = omega arith in
      ap (λ k. find nat_cmp k (entries_from (n + 1) xs)) e ∙ find_place (n + 1) q xs
  find_place n zero (Some v ∷ xs) =
      let e : n + 0 ≡ n = omega arith in
      ap (λ b. cond b (Some v) (find nat_cmp (n + 0) (entries_from (n + 1) xs))) (ap (λ k. eq_by_cmp nat_cmp k n) e ∙ itself n)
  find_place n (suc q) (Some v ∷ xs) =
      let e : n + suc q ≡ (n + 1) + q = omega arith in
      let past : eq_by_cmp nat_cmp (n + suc q) n ≡ false = ap is_eq (sym (nat_cmp_is (n + suc q) n Greater (omega arith))) in
      ap (λ b. cond b (Some v) (find nat_cmp (n + suc q) (entries_from (n + 1) xs))) past
      ∙ ap (λ k. find nat_cmp k (entries_from (n + 1) xs)) e ∙ find_place (n + 1) q xs

  -- a look-up reads one place
  pub get-map_of : (xs : List (Option V)) (q : ℕ) → map.get (map_of xs) q ≡ get_or xs q None
  get-map_of xs q = map.get-from_sorted nat_cmp (entries_from 0 xs) q (sorted 0 xs) ∙ ap (λ k. find nat_cmp k (entries_from 0 xs)) (sym (zero-add q)) ∙ find_place 0 q xs

  pub entries-map_of : (xs : List (Option V)) → map.entries (map_of xs) ≡ entries_from 0 xs
  entries-map_of xs = map.entries-from_sorted nat_cmp _ (sorted 0 xs)

  pub map_of-nil : map_of {V = V} [] ≡ map.empty
  map_of-nil = map.empty_of_len _ (map.len-entries (map_of []) ∙ ap length (entries-map_of []))

  updated : (xs ys : List (Option V)) (at : ℕ) (v : V) → ((q : ℕ) → get_or ys q None ≡ cond (q == at) (Some v) (get_or xs q None)) → map_of ys ≡ map.insert (map_of xs) at v
  updated xs ys at v h =
      map.same_map nat_cmp_total map.nat_cmp-IsAntisymmetric _ _ (λ q.
      get-map_of ys q ∙ h q
      ∙ ap (λ b. cond b (Some v) (get_or xs q None)) (sym (unsigned_tied q at))
      ∙ ap (cond (eq_by_cmp nat_cmp q at) (Some v)) (sym (get-map_of xs q))
      ∙ sym (map.get-insert nat_cmp_total (map_of xs) at v q))

  at_set : (xs : List (Option V)) (at : ℕ) (v : V) → at < length xs → (q : ℕ) → get_or (set xs at (Some v)) q None ≡ cond (q == at) (Some v) (get_or xs q None)
  at_set xs at v h q = grind (arith, nat_tests, get_or-set_same, get_or-set_other)

  -- a write to a place in range
  pub map_of-set : (xs : List (Option V)) (at : ℕ) (v : V) → at < length xs → map_of (set xs at (Some v)) ≡ map.insert (map_of xs) at v
  map_of-set xs at v h = updated xs _ at v (at_set xs at v h)

  empties : (xs : List (Option V)) (k q : ℕ) → get_or (xs ++ replicate k None) q None ≡ get_or xs q None
  empties xs k q = grind (arith, get_or_append_left, get_or_past, get_or-append_right, get_or-replicate, length-append, length-replicate)

  at_end : (xs : List (Option V)) (v : V) (q : ℕ) → get_or (xs ++ Some v ∷ []) q None ≡ cond (q == length xs) (Some v) (get_or xs q None)
  at_end xs v q = grind (arith, nat_tests, get_or_append_left, get_or-append_seam, get_or_past, length-append)

  -- a write past the end, after empty places
  pub map_of-past : (xs : List (Option V)) (at : ℕ) (v : V) → length xs ≤ at → map_of (xs ++ replicate (at - length xs) None ++ Some v ∷ []) ≡ map.insert (map_of xs) at v
  map_of-past xs at v h =
      let k = at - length xs in
      let len : length (xs ++ replicate k None) ≡ at = omega (arith, length-append xs (replicate k None), length-replicate {A = Option V} k None) in
      updated xs _ at v (λ q.
      at_end (xs ++ replicate k None) v q
      ∙ ap (λ n. cond (q == n) (Some v) (get_or (xs ++ replicate k None) q None)) len
      ∙ ap (cond (q == at) (Some v)) (empties xs k q))

  tail_full : (x : Option V) (xs : List (Option V)) → IsTrue (ends_full (x ∷ xs)) → IsTrue (ends_full xs)
  tail_full x [] h = refl
  tail_full x (y ∷ xs) h = h

  pub ends_full-set : (xs : List (Option V)) (at : ℕ) (v : V) → IsTrue (ends_full xs) → IsTrue (ends_full (set xs at (Some v)))
  ends_full-set [] at v h = refl
  ends_full-set (x ∷ []) zero v h = refl
  ends_full-set (x ∷ []) (suc at) v h = h
  ends_full-set (x ∷ y ∷ xs) zero v h = h
  ends_full-set (x ∷ y ∷ xs) (suc zero) v h = ends_full-set (y ∷ xs) zero v h
  ends_full-set (x ∷ y ∷ xs) (suc (suc at)) v h = ends_full-set (y ∷ xs) (suc at) v h

  pub ends_full-push : (xs : List (Option V)) (v : V) → IsTrue (ends_full (xs ++ Some v ∷ []))
  ends_full-push [] v = refl
  ends_full-push (x ∷ []) v = refl
  ends_full-push (x ∷ y ∷ xs) v = ends_full-push (y ∷ xs) v

  pub none_past : (xs : List (Option V)) (at : ℕ) → length xs ≤ at → map.get (map_of xs) at ≡ None
  none_past xs at h = get-map_of xs at ∙ get_or_past xs at None h

  some_entry : (n : ℕ) (x : Option V) (xs : List (Option V)) → IsTrue (ends_full (x ∷ xs)) → (e : ℕ × V) × (es : List (ℕ × V)) × (entries_from n (x ∷ xs) ≡ e ∷ es) × (n ≤ e.0)
  some_entry n (Some v) xs h = ((n, v), entries_from (n + 1) xs, refl, omega arith)
  some_entry n None [] h = absurd (cc)
  some_entry n None (y ∷ xs) h =
      let r = some_entry (n + 1) y xs h in
      (r.0, r.1, r.2, omega (arith, r.3))

  module _ (E : V → V → Bool) where
    -- an empty place on one side and a value on the other: the other side's later numbers are greater
    late : (n : ℕ) (w : V) (p : ℕ × V) → n < p.0 → eq_by_cmp nat_cmp n p.0 ≡ false × (eq_by_cmp nat_cmp p.0 n ≡ false)
    late n w p h = (apart n p.0 h, ap is_eq (sym (nat_cmp_is p.0 n Greater h)))

    -- places that end full are equal exactly where their entries are
    same_from : (n : ℕ) (xs ys : List (Option V)) → IsTrue (ends_full xs) → IsTrue (ends_full ys)
        → pointwise (same_entry nat_cmp E) (entries_from n xs) (entries_from n ys) ≡ pointwise (option_eq E) xs ys
    same_from n [] [] h k = refl
    same_from n [] (y ∷ ys) h k = ap (pointwise (same_entry nat_cmp E) []) (some_entry n y ys k).2
    same_from n (x ∷ xs) [] h k = ap (λ es. pointwise (same_entry nat_cmp E) es []) (some_entry n x xs h).2
    same_from n (None ∷ xs) (None ∷ ys) h k = same_from (n + 1) xs ys (tail_full None xs h) (tail_full None ys k)
    same_from n (Some v ∷ xs) (Some w ∷ ys) h k =
        ap (λ b. (b && E v w) && pointwise (same_entry nat_cmp E) (entries_from (n + 1) xs) (entries_from (n + 1) ys)) (itself n)
        ∙ ap (λ b. E v w && b) (same_from (n + 1) xs ys (tail_full (Some v) xs h) (tail_full (Some w) ys k))
    same_from n (None ∷ []) (Some w ∷ ys) h k = absurd (cc)
    same_from n (None ∷ x ∷ xs) (Some w ∷ ys) h k =
        let r = some_entry (n + 1) x xs h in
        let off : eq_by_cmp nat_cmp r.0.0 n ≡ false = (late n w r.0 (omega (arith, r.3))).1 in
        ap (λ es. pointwise (same_entry nat_cmp E) es ((n, w) ∷ entries_from (n + 1) ys)) r.2
        ∙ ap (λ b. (b && E r.0.1 w) && pointwise (same_entry nat_cmp E) r.1 (entries_from (n + 1) ys)) off
    same_from n (Some v ∷ xs) (None ∷ []) h k = absurd (cc)
    same_from n (Some v ∷ xs) (None ∷ y ∷ ys) h k =
        let r = some_entry (n + 1) y ys k in
        let off : eq_by_cmp nat_cmp n r.0.0 ≡ false = (late n v r.0 (omega (arith, r.3))).0 in
        ap (pointwise (same_entry nat_cmp E) ((n, v) ∷ entries_from (n + 1) xs)) r.2
        ∙ ap (λ b. (b && E v r.0.1) && pointwise (same_entry nat_cmp E) (entries_from (n + 1) xs) r.1) off

    pub same_maps-map_of : (xs ys : List (Option V)) → IsTrue (ends_full xs) → IsTrue (ends_full ys) → same_maps nat_cmp E (map_of xs) (map_of ys) ≡ pointwise (option_eq E) xs ys
    same_maps-map_of xs ys h k =
        ap (λ es. pointwise (same_entry nat_cmp E) es (map.entries (map_of ys))) (entries-map_of xs)
        ∙ ap (pointwise (same_entry nat_cmp E) (entries_from 0 xs)) (entries-map_of ys)
        ∙ same_from 0 xs ys h k

pub ruleset of_places = (get-map_of, entries-map_of, map_of-nil, map_of-set, map_of-past, ends_full-set, ends_full-push, none_past, same_maps-map_of)
