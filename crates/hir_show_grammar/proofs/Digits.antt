-- What digits stand for, digit by digit.
use Rattle.std.proofs.Common.{Option, ◌≡◌, ◌≢◌, ◌+◌, ◌-◌, ◌*◌, ◌<◌, ◌≤◌, ◌^◌, ℕ, Some, None, List, [], ◌∷◌, take, drop, length, get_or, sym, ap, ◌∙◌, arith, take-append-drop, fold, Bool, true, false, refl, zero, suc, length-take}
use Rattle.std.specs.List.{list_all}
use Rattle.std.proofs.lemmas.Grind.{common_steps, fold-append, pow_more}
use Rattle.std.proofs.lemmas.Bool.Decides.{nat_tests}
use Rattle.std.proofs.lemmas.Bool.{false≢true}
use Rattle.std.proofs.lemmas.List.Sums.{AllPass-from_list_all}
use Rattle.hir_show_grammar.specs.Numerals.{value, if_below, is_digit, number_of, has_needless_zero}

grows : (bs : List ℕ) (n : ℕ) → n ≤ fold (λ n b. 10 * n + (b - 48)) n bs
grows [] n = omega arith
grows (b ∷ bs) n = omega (arith, grows bs (10 * n + (b - 48)))

pub value-prefix : (bs : List ℕ) (i : ℕ) → value (take i bs) ≤ value bs
value-prefix bs i =
    let prefix = value (take i bs) in
    let all : value bs ≡ fold (λ n b. 10 * n + (b - 48)) prefix (drop i bs) =
    ap value (sym (take-append-drop i bs)) ∙ fold-append (λ n b. 10 * n + (b - 48)) 0 (take i bs) (drop i bs) in
    omega (arith, all, grows (drop i bs) prefix)

pub value-next : (bs : List ℕ) (i : ℕ) → i < length bs → value (take (i + 1) bs) ≡ 10 * value (take i bs) + (get_or bs i 0 - 48)
value-next bs i h = grind (arith, common_steps)

if_below-large : (n : ℕ) → 2 ^ 32 ≤ n → if_below (2 ^ 32) n ≡ None
if_below-large n h = grind (arith, nat_tests)

pub if_below-below : (n : ℕ) → n < 2 ^ 32 → if_below (2 ^ 32) n ≡ Some n
if_below-below n h = grind (arith, nat_tests)

-- a text of whose front the value is too large is no number
pub too_large : (xs : List ℕ) (i : ℕ) → 2 ^ 32 ≤ value (take i xs) → if_below (2 ^ 32) (value xs) ≡ None
too_large xs i large = if_below-large (value xs) (omega (arith, value-prefix xs i, large))

-- digits of which the first is no zero have at least the value of a one and zeros
pub value-long : (xs : List ℕ) (k : ℕ) → k < length xs → 48 < get_or xs 0 0 → 10 ^ k ≤ value (take (k + 1) xs)
value-long xs zero h first = omega (arith, value-next xs 0 h, first)
value-long xs (suc k) h first =
    let one : suc k ≡ k + 1 = omega arith in
    let same : value (take (suc k) xs) ≡ value (take (k + 1) xs) = ap (λ n. value (take n xs)) one in
    let power : 10 ^ suc k ≡ 10 ^ (k + 1) = ap (λ n. 10 ^ n) one in
    omega (arith, value-next xs (suc k) h, same, power, pow_more 10 k, value-long xs k (omega arith) first)

pub no_zero : (xs : List ℕ) → 1 < length xs → list_all is_digit xs ≡ true → has_needless_zero xs ≡ false → 48 < get_or xs 0 0
no_zero [] h all plain = absurd (omega (arith, h))
no_zero (b ∷ bs) h all plain = grind (arith, nat_tests)

needless_whole : (xs : List ℕ) (i : ℕ) → has_needless_zero (take i xs) ≡ true → has_needless_zero xs ≡ true
needless_whole [] zero e = grind (arith, nat_tests)
needless_whole [] (suc i) e = grind (arith, nat_tests)
needless_whole (b ∷ bs) zero e = grind (arith, nat_tests)
needless_whole (b ∷ bs) (suc i) e = grind (arith, nat_tests, length-take)

pub digit_high : (b : ℕ) → is_digit b ≡ true → b ≤ 57
digit_high b e = grind (arith, nat_tests)

-- digits and one more stay below the next power of ten
pub digit_more : (e v b : ℕ) → v < 10 ^ e → is_digit b ≡ true → 10 * v + (b - 48) < 10 ^ (e + 1)
digit_more e v b small digit = omega (arith, small, digit_high b digit, pow_more 10 e)

false_unless : (b : Bool) → (b ≡ true → ⊥) → b ≡ false
false_unless true h = absurd (h refl)
false_unless false h = refl

-- a text in which something is no digit is no number
pub no_number : (xs : List ℕ) (i : ℕ) → i < length xs → is_digit (get_or xs i 0) ≡ false → number_of xs ≡ None
unfolding number_of
no_number xs i h other =
    let none : list_all is_digit xs ≡ false = false_unless _ (λ all. false≢true (sym other ∙ AllPass-from_list_all is_digit xs all i 0 h)) in
    grind (arith, common_steps)

pub no_number-empty : (xs : List ℕ) → length xs ≡ 0 → number_of xs ≡ None
unfolding number_of
no_number-empty xs e = grind (arith, common_steps)

pub no_number-needless : (xs : List ℕ) (i : ℕ) → has_needless_zero (take i xs) ≡ true → number_of xs ≡ None
unfolding number_of
no_number-needless xs i e = let needless : has_needless_zero xs ≡ true = needless_whole xs i e in grind (arith, common_steps)

pub no_number-large : (xs : List ℕ) → if_below (2 ^ 32) (value xs) ≡ None → number_of xs ≡ None
unfolding number_of
no_number-large xs e = grind (arith, common_steps)

pub number_is : (xs : List ℕ) → length xs ≢ 0 → has_needless_zero xs ≡ false → list_all is_digit xs ≡ true → number_of xs ≡ if_below (2 ^ 32) (value xs)
unfolding number_of
number_is xs some plain all = grind (arith, common_steps)
