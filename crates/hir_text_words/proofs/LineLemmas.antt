-- The first line of a text.
use Rattle.std.proofs.Common.{◌≡◌, ◌+◌, ◌-◌, ◌<◌, ℕ, Bool, true, false, List, [], ◌∷◌, None, Some, length, get_or, take, drop, ◌++◌, length-take, get_or-take, refl, sym, ap, ◌∙◌, arith}
use Rattle.std.specs.List.{All, slice_split}
use Rattle.std.proofs.lemmas.Bool.{eqb-true}
use Rattle.std.proofs.lemmas.List.{get_or_default, take_rest}
use Rattle.std.proofs.lemmas.List.Splits.{slice_split_at, slice_split_none}
use Rattle.std.proofs.lemmas.Grind.{common_steps}
use Rattle.memchr.specs.Find.{is_byte, IsFirstByte}
use Rattle.hir_text_words.specs.AnswerLines.{is_line_end, text_lines}

false_unless : (b : Bool) → (b ≡ true → ⊥) → b ≡ false
false_unless true h = absurd (h refl)
false_unless false h = refl

cut_at : (bytes : List ℕ) (k : ℕ) → k < length bytes → get_or bytes k 0 ≡ 10 → bytes ≡ take k bytes ++ 10 ∷ drop (k + 1) bytes
cut_at bytes k within at = grind (arith, common_steps)

free_before : (bytes : List ℕ) (k : ℕ) → IsFirstByte (is_byte 10) bytes (Some k) → All (λ b. is_line_end b ≡ false) (take k bytes)
free_before bytes k h =
    let first = h.0 in
    λ j d inside.
    let below : j < k = omega (arith, inside, length-take k bytes) in
    rw (get_or-take {A = ℕ} k bytes j d below, get_or_default bytes j d 0 (omega (arith, first.high))) (false_unless _ (first.before j (omega arith) below))

-- the first line and its end, where the text has one
pub first_line : (bytes : List ℕ) (k : ℕ) → IsFirstByte (is_byte 10) bytes (Some k)
    → text_lines bytes ≡ take k bytes ∷ text_lines (take (length bytes - (k + 1)) (drop (k + 1) bytes))
first_line bytes k h =
    let rest = drop (k + 1) bytes in
    let whole : bytes ≡ take k bytes ++ 10 ∷ rest = cut_at bytes k (h.0).high (eqb-true _ _ h.1) in
    ap text_lines whole ∙ slice_split_at is_line_end (take k bytes) 10 rest (free_before bytes k h) refl ∙ ap (λ v. take k bytes ∷ text_lines v) (sym (take_rest bytes (k + 1)))

-- a text without an end of a line is one line
pub only_line : (bytes : List ℕ) → IsFirstByte (is_byte 10) bytes None → text_lines bytes ≡ bytes ∷ []
only_line bytes h = slice_split_none is_line_end bytes (λ k d within. rw (get_or_default bytes k d 0 within) (false_unless _ (h k (omega arith) within)))
