-- The words of a text, and of its rest from a place on.
use Rattle.std.proofs.Common.{◌≡◌, ◌+◌, ◌<◌, ◌≤◌, ℕ, zero, suc, Bool, List, [], ◌∷◌, drop, length, refl, sym, ap, ◌∙◌, arith}
use Rattle.std.specs.List.{slice_split}
use Rattle.std.proofs.lemmas.List.Splits.{length-slice_split}
use Rattle.hir_show_grammar.specs.internal.Readings.{HasWord, IsRestFrom, words_from}
use Rattle.hir_show_grammar.specs.Readings.{is_byte, split_parts}

-- a text has one part at least
pub parts_are_there : (p : ℕ → Bool) (text : List ℕ) → slice_split p text ≡ [] → ⊥
parts_are_there p text e = let l = ap length e in omega (arith, length-slice_split p text)

pub has_word : (words : List (List ℕ)) → (words ≡ [] → ⊥) → HasWord words
has_word [] some = absurd (some refl)
has_word (word ∷ words) some = (word, words, refl)

pub parts_begin : (p : ℕ → Bool) (text : List ℕ) → HasWord (slice_split p text)
parts_begin p text = has_word (slice_split p text) (parts_are_there p text)

-- within a text they are those of its rest
pub words_at : (c start : ℕ) (text : List ℕ) → start ≤ length text → words_from c start text ≡ split_parts c (drop start text)
words_at c zero text h = refl
words_at c (suc n) [] h = absurd (omega (arith, h))
words_at c (suc n) (b ∷ bs) h = words_at c n bs (omega (arith, h))

-- past its end there are none
pub words_past : (c start : ℕ) (text : List ℕ) → length text < start → words_from c start text ≡ []
words_past c zero text h = absurd (omega (arith, h))
words_past c (suc n) [] h = refl
words_past c (suc n) (b ∷ bs) h = words_past c n bs (omega (arith, h))

pub empty_past : (c start : ℕ) (text : List ℕ) → words_from c start text ≡ [] → length text < start
empty_past c zero text e = absurd (parts_are_there (is_byte c) text e)
empty_past c (suc n) [] e = omega arith
empty_past c (suc n) (b ∷ bs) e = omega (arith, empty_past c n bs e)

further : (c start n : ℕ) (text : List ℕ) → start ≤ length text → words_from c (start + n) text ≡ words_from c n (drop start text)
further c zero n text h = let same : 0 + n ≡ n = omega arith in ap (λ (k : ℕ). words_from c k text) same
further c (suc m) n [] h = absurd (omega (arith, h))
further c (suc m) n (b ∷ bs) h =
    let same : suc m + n ≡ suc (m + n) = omega arith in
    ap (λ (k : ℕ). words_from c k (b ∷ bs)) same ∙ further c m n bs (omega (arith, h))

-- the words from a place on are those of the rest
pub rest_words : (c : ℕ) {start : ℕ} {text rest : List ℕ} → IsRestFrom start text rest → words_from c start text ≡ split_parts c rest
rest_words c {start} {text} {rest} is = words_at c start text (omega (arith, is.size)) ∙ ap (split_parts c) (sym is.is)

-- so are those further on
pub rest_further : (c n : ℕ) {start : ℕ} {text rest : List ℕ} → IsRestFrom start text rest → words_from c n rest ≡ words_from c (start + n) text
rest_further c n {start} {text} {rest} is = ap (words_from c n) is.is ∙ sym (further c start n text (omega (arith, is.size)))
