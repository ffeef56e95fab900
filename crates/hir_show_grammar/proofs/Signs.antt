-- How integers are written is how they are read.
use Rattle.std.proofs.Common.{◌≡◌, ◌<◌, ◌≤◌, ◌^◌, ℕ, suc, zero, Bool, true, false, List, [], ◌∷◌, Some, drop, get_or, arith, refl, sym, ap, ◌∙◌, subst, inl, inr, ◌⊎◌}
use Rattle.std.specs.Prelude.{ℤ, pos, negsuc, neg_ℤ, if◌then◌else◌, codes, nat_lt, nat_le, eqb, FitsSigned}
use Rattle.std.specs.Fmt.{decimal, signed_decimal}
use Rattle.std.specs.Int.{w128}
use Rattle.std.proofs.lemmas.Bool.{eqb-true}
use Rattle.std.proofs.lemmas.Bool.Decides.{nat_tests}
use Rattle.std.proofs.lemmas.Fmt.{decimal_digit}
use Rattle.std.proofs.lemmas.List.Sums.{AllPass-from_list_all}
use borrow.Author.Tests.{ltb-true, leb-true}
use Rattle.hir_show_grammar.specs.Numerals.{int_of, is_numeral, is_digit, has_minus, with_sign, value}
use Rattle.hir_show_grammar.specs.Tokens.{IsInteger}
use Rattle.hir_show_grammar.proofs.Decimals.{decimal-value, value-decimal, numeral-decimal, digits-decimal}
use Rattle.hir_show_grammar.proofs.Integers.{if_is_some, some_digit, value_of_digits, read_numeral, numeral_read, int_is}

digit_no_minus : (b : ℕ) → is_digit b ≡ true → eqb b 45 ≡ false
digit_no_minus b e = grind (arith, nat_tests)

no_minus : (n : ℕ) → n < 10 ^ 64 → has_minus (decimal n) ≡ false
no_minus n small =
    let some = some_digit (decimal n) (numeral-decimal n small) in
    digit_no_minus _ (AllPass-from_list_all is_digit (decimal n) (digits-decimal n small) 0 0 some)

read_decimal : (minus : Bool) (n : ℕ) → n < 10 ^ 64 → value_of_digits minus (decimal n) ≡ with_sign minus n
read_decimal minus n small = read_numeral minus (decimal n) (numeral-decimal n small) ∙ ap (with_sign minus) (value-decimal n small)

signed_plain : (n : ℕ) → n < 2 ^ 127 → with_sign false n ≡ Some (pos n)
signed_plain n h = grind (arith, nat_tests)

signed_minus : (n : ℕ) → n ≤ 2 ^ 127 → with_sign true n ≡ Some (neg_ℤ (pos n))
signed_minus n h = grind (arith, nat_tests)

decimal_reads : (z : ℤ) → FitsSigned w128 z → int_of (signed_decimal z) ≡ Some z
decimal_reads (pos n) fits =
    let below : n < 2 ^ 127 = fits.sfits in
    let small : n < 10 ^ 64 = omega arith in
    int_is (decimal n) false (no_minus n small) ∙ read_decimal false n small ∙ signed_plain n below
decimal_reads (negsuc m) fits =
    let below : m < 2 ^ 127 = fits.sfits in
    let small : suc m < 10 ^ 64 = omega arith in
    int_is (45 ∷ decimal (suc m)) true refl ∙ read_decimal true (suc m) small ∙ signed_minus (suc m) (omega arith)

minus_zero : int_of (codes "-0") ≡ Some (pos 0)
unfolding int_of
minus_zero = refl

pub int_reads : (z : ℤ) (word : List ℕ) → IsInteger z word → int_of word ≡ Some z
int_reads z word h = by_case h.1 where
  by_case : (word ≡ signed_decimal z) ⊎ ((z ≡ pos 0) × (word ≡ codes "-0")) → int_of word ≡ Some z
  by_case (inl written) = ap int_of written ∙ decimal_reads z h.0
  by_case (inr zero_so) = ap int_of zero_so.1 ∙ minus_zero ∙ ap Some (sym zero_so.0)

plain_spells : (z : ℤ) (word : List ℕ) → is_numeral word ≡ true → with_sign false (value word) ≡ Some z → IsInteger z word
plain_spells z word numeral e =
    let found = if_is_some (nat_lt (value word) (2 ^ 127)) (Some (pos (value word))) z e in
    let same : pos (value word) ≡ z = let some = found.1 in cc in
    let below : value word < 2 ^ 127 = ltb-true _ _ found.0 in
    let spelt : IsInteger (pos (value word)) word = (record { sfits = below }, inl (sym (decimal-value word numeral (omega arith)))) in
    subst (λ y. IsInteger y word) same spelt

after_minus : (word : List ℕ) → get_or word 0 0 ≡ 45 → word ≡ 45 ∷ drop 1 word
after_minus [] e = absurd (omega (arith, e))
after_minus (b ∷ bs) e = ap (λ c. c ∷ bs) e

minus_number : (n : ℕ) (word : List ℕ) → n ≤ 2 ^ 127 → word ≡ 45 ∷ decimal n → IsInteger (neg_ℤ (pos n)) word
minus_number zero word h written = (record { sfits = omega arith }, inr (refl, written ∙ ap (λ ds. 45 ∷ ds) (decimal_digit 0 (omega arith))))
minus_number (suc m) word h written = (record { sfits = omega arith }, inl written)

minus_spells : (z : ℤ) (word : List ℕ) → get_or word 0 0 ≡ 45 → is_numeral (drop 1 word) ≡ true → with_sign true (value (drop 1 word)) ≡ Some z → IsInteger z word
minus_spells z word sign numeral e =
    let v : ℕ = value (drop 1 word) in
    let found = if_is_some (nat_le v (2 ^ 127)) (Some (neg_ℤ (pos v))) z e in
    let same : neg_ℤ (pos v) ≡ z = let some = found.1 in cc in
    let below : v ≤ 2 ^ 127 = leb-true _ _ found.0 in
    let digits : decimal v ≡ drop 1 word = decimal-value (drop 1 word) numeral (omega arith) in
    subst (λ y. IsInteger y word) same (minus_number v word below (after_minus word sign ∙ ap (λ ds. 45 ∷ ds) (sym digits)))

pub int_spells : (z : ℤ) (word : List ℕ) → int_of word ≡ Some z → IsInteger z word
int_spells z word e = by_minus (has_minus word) refl where
  by_minus : (minus : Bool) → has_minus word ≡ minus → IsInteger z word
  by_minus false is = let found = numeral_read false word z (sym (int_is word false is) ∙ e) in plain_spells z word found.0 found.1
  by_minus true is = let found = numeral_read true (drop 1 word) z (sym (int_is word true is) ∙ e) in minus_spells z word (eqb-true _ _ is) found.0 found.1
