-- The first word of a text, by a front of the text without a separator.
use Rattle.std.proofs.Common.{◌≡◌, ◌+◌, ◌-◌, ◌<◌, ◌≤◌, ◌^◌, ℕ, Bool, true, false, List, [], ◌∷◌, ◌++◌, Some, None, length, take, drop, get_or, refl, sym, ap, ◌∙◌, arith, take-append-drop, drop-cons, add-one, length-take, length-append, take_all, append-nil, get_or-take, inl, inr}
use Rattle.std.specs.Prelude.{eqb}
use Rattle.std.specs.List.{list_all, onto_first, join_with_byte, starts_with}
use Rattle.std.proofs.Math.Seq.{take-append_seam}
use Rattle.std.proofs.lemmas.Bool.Decides.{Decides-eqb}
use Rattle.std.proofs.lemmas.Bool.{cases_lt, cases_Bool}
use Rattle.std.proofs.lemmas.Grind.{common_steps}
use Rattle.std.proofs.lemmas.List.{take_more}
use Rattle.std.proofs.lemmas.List.Elements.{All-head, All-push, All-tail}
use Rattle.std.proofs.lemmas.List.Splits.{slice_split_at, slice_split_none, slice_split-cons_no, join_with_byte-slice_split}
use Rattle.std.proofs.lemmas.Slice.Eq.{starts_is}
use Rattle.hir_show_grammar.specs.Numerals.{is_digit, number_of, value, has_needless_zero}
use Rattle.hir_show_grammar.specs.internal.Readings.{HasWord, Plain, StartsOtherwise, words_from}
use Rattle.hir_show_grammar.specs.Readings.{is_byte, split_parts}
use Rattle.hir_show_grammar.specs.Words.{number}
use Rattle.hir_show_grammar.proofs.Digits.{no_number, no_number-empty, no_number-needless, no_number-large, no_zero, too_large, value-long, value-next}
use Rattle.hir_show_grammar.proofs.Splits.{parts_begin, words_at, words_past}

split_after : (c : ℕ) (xs ys part : List ℕ) (parts : List (List ℕ)) → Plain c xs → split_parts c ys ≡ part ∷ parts → split_parts c (xs ++ ys) ≡ (xs ++ part) ∷ parts
split_after c [] ys part parts h e = e
split_after c (x ∷ xs) ys part parts h e =
    slice_split-cons_no (is_byte c) x (xs ++ ys) (All-head (λ b. is_byte c b ≡ false) x xs h)
    ∙ ap (onto_first x) (split_after c xs ys part parts (All-tail (λ b. is_byte c b ≡ false) x xs h) e)

parted_at : (xs : List ℕ) (i : ℕ) → i < length xs → xs ≡ take i xs ++ get_or xs i 0 ∷ drop (i + 1) xs
parted_at xs i h = sym (take-append-drop i xs) ∙ ap (λ ys. take i xs ++ ys) (rw add-one (drop-cons xs i 0 h))

-- one byte more
pub plain_more : (c : ℕ) (xs : List ℕ) (i : ℕ) → i < length xs → Plain c (take i xs) → is_byte c (get_or xs i 0) ≡ false → Plain c (take (i + 1) xs)
plain_more c xs i h plain other = rw (take_more xs i 0 h) (All-push (λ b. is_byte c b ≡ false) (take i xs) (get_or xs i 0) plain other)

-- a separator behind the front ends the word
prefix_cut : (c : ℕ) (xs : List ℕ) (i : ℕ) → i < length xs → Plain c (take i xs) → is_byte c (get_or xs i 0) ≡ true → split_parts c xs ≡ take i xs ∷ split_parts c (drop (i + 1) xs)
prefix_cut c xs i h plain met = ap (split_parts c) (parted_at xs i h) ∙ slice_split_at (is_byte c) (take i xs) (get_or xs i 0) _ plain met

-- a front that is all
prefix_alone : (c : ℕ) (xs : List ℕ) (i : ℕ) → length xs ≤ i → Plain c (take i xs) → split_parts c xs ≡ take i xs ∷ []
prefix_alone c xs i e plain =
    let whole : take i xs ≡ xs = take_all i xs e in
    rw whole (slice_split_none (is_byte c) xs (rw whole at plain))

-- a front behind which the word ends is the first word
pub prefix_ends : (c : ℕ) (xs : List ℕ) (i : ℕ) → i ≤ length xs → Plain c (take i xs) → (i < length xs → is_byte c (get_or xs i 0) ≡ true) → split_parts c xs ≡ take i xs ∷ words_from c (i + 1) xs
prefix_ends c xs i within plain stops = elim (cases_lt i (length xs)) [
  | inl h ↦ prefix_cut c xs i h plain (stops h) ∙ ap (λ ws. take i xs ∷ ws) (sym (words_at c (i + 1) xs (omega (arith, h))))
  | inr e ↦ prefix_alone c xs i (omega (arith, e)) plain ∙ ap (λ ws. take i xs ∷ ws) (sym (words_past c (i + 1) xs (omega (arith, e))))
]

-- another byte behind the front goes on with the word
pub record GoesOn (c : ℕ) (xs : List ℕ) (i : ℕ) : Type 0 where
  pub word : List ℕ
  pub words : List (List ℕ)
  pub first : split_parts c xs ≡ word ∷ words
  pub reaches : i < length word
  pub prefix : take i word ≡ take i xs
  pub here : get_or word i 0 ≡ get_or xs i 0

seam : (ys : List ℕ) (n b : ℕ) (zs : List ℕ) → length ys ≡ n → get_or (ys ++ b ∷ zs) n 0 ≡ b
seam ys n b zs e = grind (arith, common_steps)

pub prefix_goes_on : (c : ℕ) (xs : List ℕ) (i : ℕ) → i < length xs → Plain c (take i xs) → is_byte c (get_or xs i 0) ≡ false → GoesOn c xs i
prefix_goes_on c xs i h plain other =
    let suffix : List ℕ = drop (i + 1) xs in
    let b : ℕ = get_or xs i 0 in
    let more : HasWord (split_parts c suffix) = parts_begin (is_byte c) suffix in
    let at : split_parts c (take i xs ++ b ∷ suffix) ≡ (take i xs ++ b ∷ more.0) ∷ more.1 =
    split_after c (take i xs) (b ∷ suffix) (b ∷ more.0) more.1 plain (slice_split-cons_no (is_byte c) b suffix other ∙ ap (onto_first b) more.2) in
    let size : length (take i xs) ≡ i = omega (arith, length-take i xs) in
    record {
      word = take i xs ++ b ∷ more.0;
      words = more.1;
      first = ap (split_parts c) (parted_at xs i h) ∙ at;
      reaches = omega (arith, size, length-append (take i xs) (b ∷ more.0));
      prefix = ap (λ n. take n (take i xs ++ b ∷ more.0)) (sym size) ∙ take-append_seam (take i xs) (b ∷ more.0);
      here = seam (take i xs) i b more.0 size;
    }

first_read : (words : List (List ℕ)) (word : List ℕ) (others : List (List ℕ)) → words ≡ word ∷ others → number_of word ≡ None → number words ≡ None
first_read words word others e none = ap number e ∙ rw none refl

-- where no digit stands behind the front there is no number
pub no_digit : (c : ℕ) (xs : List ℕ) (i : ℕ) → i < length xs → Plain c (take i xs) → is_byte c (get_or xs i 0) ≡ false → is_digit (get_or xs i 0) ≡ false → number (split_parts c xs) ≡ None
no_digit c xs i h plain other stop =
    let on = prefix_goes_on c xs i h plain other in
    first_read _ on.word on.words on.first (no_number on.word i on.reaches (ap is_digit on.here ∙ stop))

-- the first word begins with the front
abbrev FirstWord : ℕ → List ℕ → ℕ → Type 0
FirstWord c xs i = (word : List ℕ) × (words : List (List ℕ)) × (split_parts c xs ≡ word ∷ words) × (take i word ≡ take i xs)

prefix_of_word : (c : ℕ) (xs : List ℕ) (i : ℕ) → Plain c (take i xs) → FirstWord c xs i
prefix_of_word c xs i plain = elim (cases_lt i (length xs)) [
  | inl h ↦ elim (cases_Bool (is_byte c (get_or xs i 0))) [
    | inl met ↦ (take i xs, _, prefix_cut c xs i h plain met, take_all i (take i xs) (omega (arith, length-take i xs)))
    | inr other ↦ let on = prefix_goes_on c xs i h plain other in (on.word, on.words, on.first, on.prefix)
  ]
  | inr e ↦ (take i xs, [], prefix_alone c xs i (omega (arith, e)) plain, take_all i (take i xs) (omega (arith, length-take i xs)))
]

-- a front with a needless zero, or whose value is too large, begins no number
pub needless_prefix : (c : ℕ) (xs : List ℕ) (i : ℕ) → Plain c (take i xs) → has_needless_zero (take i xs) ≡ true → number (split_parts c xs) ≡ None
needless_prefix c xs i plain needless =
    let first = prefix_of_word c xs i plain in
    first_read _ first.0 first.1 first.2 (no_number-needless first.0 i (rw first.3 needless))

pub large_prefix : (c : ℕ) (xs : List ℕ) (i : ℕ) → Plain c (take i xs) → 2 ^ 32 ≤ value (take i xs) → number (split_parts c xs) ≡ None
large_prefix c xs i plain large =
    let first = prefix_of_word c xs i plain in
    first_read _ first.0 first.1 first.2 (no_number-large first.0 (too_large first.0 i (rw first.3 large)))

-- a front that is the word is no number where it is empty
pub no_prefix : (words : List (List ℕ)) (word : List ℕ) (others : List (List ℕ)) → words ≡ word ∷ others → length word ≡ 0 → number words ≡ None
no_prefix words word others e none = first_read words word others e (no_number-empty word none)

-- ten digits, of which the first is no zero, and one more are too large
pub eleven_digits : (c : ℕ) (xs : List ℕ) → 10 < length xs → Plain c (take 10 xs) → list_all is_digit (take 10 xs) ≡ true → has_needless_zero (take 10 xs) ≡ false → is_byte c (get_or xs 10 0) ≡ false → number (split_parts c xs) ≡ None
eleven_digits c xs h plain all needed other =
    let size : length (take 10 xs) ≡ 10 = omega (arith, length-take 10 xs) in
    let first : 48 < get_or (take 10 xs) 0 0 = no_zero (take 10 xs) (omega (arith, size)) all needed in
    let same : get_or (take 10 xs) 0 0 ≡ get_or xs 0 0 = get_or-take {A = ℕ} 10 xs 0 0 (omega arith) in
    let long : 10 ^ 9 ≤ value (take 10 xs) = value-long xs 9 (omega (arith, h)) (omega (arith, first, same)) in
    large_prefix c xs 11 (plain_more c xs 10 h plain other) (omega (arith, value-next xs 10 h, long))

pub prefix_number : (words : List (List ℕ)) (word : List ℕ) (others : List (List ℕ)) (n : ℕ) → words ≡ word ∷ others → number_of word ≡ Some n → number words ≡ Some (n, others)
prefix_number words word others n e is = ap number e ∙ rw is refl

-- a text that begins with a word that it is compared with
pub prefix_is_word : (text word : List ℕ) (r : Bool) → r ≡ starts_with eqb text word → r ≡ true → take (length word) text ≡ word
prefix_is_word text word r is met =
    let whole : text ≡ word ++ drop (length word) text = (starts_is Decides-eqb text word r is).0 met in
    ap (take (length word)) whole ∙ take-append_seam word (drop (length word) text)

abbrev pub Begins : List ℕ → List ℕ → Type 0
Begins text prefix = (rest : List ℕ) × (text ≡ prefix ++ rest)

pub begins_with : (c : ℕ) (text word : List ℕ) (others : List (List ℕ)) → split_parts c text ≡ word ∷ others → Begins text word
begins_with c text word [] e = ([], sym (join_with_byte-slice_split c text) ∙ ap (join_with_byte c) e ∙ sym (append-nil word))
begins_with c text word (other ∷ others) e = (c ∷ join_with_byte c (other ∷ others), sym (join_with_byte-slice_split c text) ∙ ap (join_with_byte c) e)

-- a text that begins otherwise has another first word
pub otherwise : (c : ℕ) (text word : List ℕ) (r : Bool) → r ≡ starts_with eqb text word → r ≡ false → StartsOtherwise word (split_parts c text)
otherwise c text word r is other = λ others e.
    let prefix : Begins text word = begins_with c text word others e in
    let met : r ≡ true = (starts_is Decides-eqb text word r is).1 prefix.0 prefix.1 in
    cc

-- so has one whose first word reaches further
pub longer : (c : ℕ) (text word : List ℕ) → length word < length text → Plain c (take (length word) text) → is_byte c (get_or text (length word) 0) ≡ false → StartsOtherwise word (split_parts c text)
longer c text word h plain other = λ others e.
    let on = prefix_goes_on c text (length word) h plain other in
    let same : on.word ≡ word = let both : on.word ∷ on.words ≡ word ∷ others = sym on.first ∙ e in cc in
    absurd (omega (arith, on.reaches, ap (λ (w : List ℕ). length w) same))
