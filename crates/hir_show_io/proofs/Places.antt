-- What the list of the places that pass a test says of the first of them.
use Rattle.std.proofs.Common.{◌≡◌, ◌+◌, ◌-◌, ◌<◌, ℕ, zero, suc, Bool, true, false, cond, List, [], ◌∷◌, Option, None, Some, length, get_or, take, drop, ◌++◌, length-take, get_or-take, refl, sym, ap, ◌∙◌, arith, inl, inr}
use Rattle.std.proofs.lemmas.Bool.{cases_lt, eqb-true, false≢true}
use Rattle.std.proofs.lemmas.List.{get_or_default}
use Rattle.std.proofs.lemmas.Grind.{common_steps}
use Rattle.hir_show_io.specs.internal.Text.{IsFirstLineEnd}
use Rattle.memchr.specs.Find.{is_byte, IsFirstByte, Passes, Nowhere, NoneBefore, TakesFirst, places_from, places}

module _ (test : ℕ → Bool) (hay : List ℕ) where
  fails : (k : ℕ) → test (get_or hay k 0) ≡ false → ¬ Passes test hay k
  fails k other passes = false≢true (sym other ∙ passes)

  -- nowhere behind a place that fails, and so nowhere from it on
  on_from : (i j : ℕ) → test (get_or hay i 0) ≡ false → Nowhere (Passes test hay) (i + 1) j → Nowhere (Passes test hay) i j
  on_from i j other none k low high passes =
      elim (cases_lt i k) [
        | inl suffix ↦ none k (omega arith) high passes
        | inr here ↦
            let same : k ≡ i = omega arith in
            fails i other (rw same at passes)
      ]

  no_place : (i n : ℕ) → places_from test hay i n ≡ [] → Nowhere (Passes test hay) i (i + n)
  unfolding places_from
  no_place i zero e = λ k low high passes. absurd (omega arith)
  no_place i (suc n) e = by_test (no_place (i + 1) n) (test (get_or hay i 0)) refl e where
    by_test : (places_from test hay (i + 1) n ≡ [] → Nowhere (Passes test hay) (i + 1) (i + 1 + n)) →
        (b : Bool) → test (get_or hay i 0) ≡ b → cond b (i ∷ places_from test hay (i + 1) n) (places_from test hay (i + 1) n) ≡ [] → Nowhere (Passes test hay) i (i + suc n)
    by_test later true is e = cc
    by_test later false is e = on_from i (i + suc n) is (λ k low high. later e k low (omega arith))

  some_place : (i n k : ℕ) (rest : List ℕ) → places_from test hay i n ≡ k ∷ rest → NoneBefore (Passes test hay) i (i + n) k × Passes test hay k
  unfolding places_from
  some_place i zero k rest e = cc
  some_place i (suc n) k rest e = by_test (some_place (i + 1) n k rest) (test (get_or hay i 0)) refl e where
    by_test : (places_from test hay (i + 1) n ≡ k ∷ rest → NoneBefore (Passes test hay) (i + 1) (i + 1 + n) k × Passes test hay k) →
        (b : Bool) → test (get_or hay i 0) ≡ b → cond b (i ∷ places_from test hay (i + 1) n) (places_from test hay (i + 1) n) ≡ k ∷ rest →
        NoneBefore (Passes test hay) i (i + suc n) k × Passes test hay k
    by_test later true is e =
        let same : i ≡ k = cc in
        (record { low = omega arith; high = omega arith; before = λ j low high passes. absurd (omega arith) }, rw same at is)
    by_test later false is e =
        let found = later e in
        let first = found.0 in
        (record { low = omega (arith, first.low); high = omega (arith, first.high); before = on_from i k is first.before }, found.1)

  -- the first of the places, as an iterator gives it
  pub first_is : (r : Option ℕ) (left : List ℕ) → TakesFirst (places test hay) r left → IsFirstByte test hay r
  first_is None left h =
      let size : length hay ≡ length hay - 0 = omega arith in
      let none = no_place 0 (length hay) (ap (places_from test hay 0) size ∙ h.0) in
      λ k low high. none k low (omega arith)
  first_is (Some k) left h =
      let size : length hay ≡ length hay - 0 = omega arith in
      let found = some_place 0 (length hay) k left (ap (places_from test hay 0) size ∙ h) in
      let first = found.0 in
      (record { low = first.low; high = omega (arith, first.high); before = first.before }, found.1)

false_unless : (b : Bool) → (b ≡ true → ⊥) → b ≡ false
false_unless true h = absurd (h refl)
false_unless false h = refl

cut_at : (bytes : List ℕ) (k : ℕ) → k < length bytes → get_or bytes k 0 ≡ 10 → bytes ≡ take k bytes ++ 10 ∷ drop (k + 1) bytes
cut_at bytes k within at = grind (arith, common_steps)

-- the first byte that is a line end
pub ends_line : (bytes : List ℕ) (r : Option ℕ) → IsFirstByte (is_byte 10) bytes r → IsFirstLineEnd bytes r
ends_line bytes None h = λ k d within. rw (get_or_default bytes k d 0 within) (false_unless _ (h k (omega arith) within))
ends_line bytes (Some k) h =
    let first = h.0 in
    let within : k < length bytes = first.high in (
      within,
      λ j d inside.
          let below : j < k = omega (arith, inside, length-take k bytes) in
          rw (get_or-take {A = ℕ} k bytes j d below, get_or_default bytes j d 0 (omega arith)) (false_unless _ (first.before j (omega arith) below)),
      cut_at bytes k within (eqb-true _ _ h.1),
    )
