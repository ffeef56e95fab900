-- Texts that are integers: they are ASCII, and std's `parse` reads them so.
use Rattle.std.proofs.Common.{◌≡◌, ◌<◌, ◌≤◌, ◌^◌, ◌+◌, ◌-◌, ◌*◌, ℕ, Bool, true, false, ◌&&◌, List, Option, Some, None, drop, length, get_or, get_or-drop, arith, rules, refl, sym, ap, ◌∙◌, inl, inr}
use Rattle.std.specs.Prelude.{ℤ, pos, neg_ℤ, Result, Ok, Err, nat_le, nat_lt, if◌then◌else◌, fold}
use Rattle.std.specs.List.{list_all}
use Rattle.std.specs.Result.{OkIff, result_ok}
use Rattle.std.specs.Int.{w128}
use Rattle.std.specs.Str.{IsAscii}
use Rattle.std.specs.Str.Parse.{ParsesSigned}
use Rattle.std.proofs.lemmas.Bool.{cases_lt, false≢true, eqb-true}
use Rattle.std.proofs.lemmas.Bool.Decides.{nat_tests}
use Rattle.std.proofs.lemmas.List.{get_or_past}
use Rattle.std.proofs.lemmas.List.Sums.{AllPass-from_list_all}
use borrow.Author.Tests.{ltb-true, leb-true}
use Rattle.std.proofs.lemmas.Str.Parse.{IsNumeralModel, numerals_by_fold, parse_signed_minus, parse_signed_digits}
use Rattle.hir_show_grammar.specs.Numerals.{is_digit, value, is_numeral, has_minus, without_minus, with_sign, int_of}

pub and_first : (a b : Bool) → (a && b) ≡ true → a ≡ true
and_first true b e = refl
and_first false b e = cc

pub and_second : (a b : Bool) → (a && b) ≡ true → b ≡ true
and_second true b e = e
and_second false b e = cc

pub if_is_some : {X : Type 0} (b : Bool) (o : Option X) (x : X) → (if b then o else None) ≡ Some x → (b ≡ true) × (o ≡ Some x)
if_is_some true o x e = (refl, e)
if_is_some false o x e = cc

pub digits_after : (text : List ℕ) → is_numeral text ≡ true → list_all is_digit text ≡ true
digits_after text e = and_second _ _ (and_second _ _ e)

digit_is_ascii : (b : ℕ) → is_digit b ≡ true → b < 128
digit_is_ascii b e = grind (arith, nat_tests)

digits_are_ascii : (digits : List ℕ) → list_all is_digit digits ≡ true → IsAscii digits
digits_are_ascii digits e i =
    elim (cases_lt i (length digits)) [
      | inl within ↦ digit_is_ascii _ (AllPass-from_list_all is_digit digits e i 0 within)
      | inr past ↦ rw (get_or_past digits i 0 past) (omega arith)
    ]

after_minus : (text : List ℕ) (i : ℕ) → get_or text 0 0 ≡ 45 → get_or (drop 1 text) (i - 1) 0 < 128 → get_or text i 0 < 128
after_minus text i sign suffix =
    elim (cases_lt 0 i) [
      | inl later ↦
          let same : get_or (drop 1 text) (i - 1) 0 ≡ get_or text i 0 =
          get_or-drop 1 text (i - 1) 0 ∙ ap (λ k. get_or text k 0) (omega arith) in
          rw same at suffix
      | inr first ↦
          let start : i ≡ 0 = omega arith in
          rw start (omega arith)
    ]

numeral : (text : List ℕ) → is_numeral (without_minus text) ≡ true → (minus : Bool) → has_minus text ≡ minus → is_numeral (if minus then drop 1 text else text) ≡ true
numeral text e minus is = ap (λ b. is_numeral (if b then drop 1 text else text)) (sym is) ∙ e

pub IsAscii-int : (text : List ℕ) → is_numeral (without_minus text) ≡ true → IsAscii text
IsAscii-int text e = by_minus (has_minus text) refl where
  by_minus : (minus : Bool) → has_minus text ≡ minus → IsAscii text
  by_minus false is = digits_are_ascii text (digits_after text (numeral text e false is))
  by_minus true is = λ i. after_minus text i (eqb-true _ _ is) (digits_are_ascii (drop 1 text) (digits_after (drop 1 text) (numeral text e true is)) (i - 1))

pub own : IsNumeralModel (λ ds. list_all is_digit ds ≡ true) value
own = numerals_by_fold _ (search rules) (λ n ds. fold (λ n b. 10 * n + (b - 48)) n ds) (search rules)

-- what is tested is what there is a result for
test_decides : {E : Type 0} (r : Result ℤ E) (Q : Type 0) (x : ℤ) (b : Bool) → OkIff r Q x → (Q → b ≡ true) → (b ≡ true → Q) → result_ok r ≡ (if b then Some x else None)
test_decides (Ok y) Q x true h to from = ap Some h.1
test_decides (Ok y) Q x false h to from = absurd (false≢true (to h.0))
test_decides (Err e) Q x true h to from = absurd (h (from refl))
test_decides (Err e) Q x false h to from = refl

pub some_digit : (digits : List ℕ) → is_numeral digits ≡ true → 0 < length digits
some_digit digits e = grind (arith, nat_tests)

pub value_of_digits : Bool → List ℕ → Option ℤ
value_of_digits minus digits = if is_numeral digits then with_sign minus (value digits) else None

pub read_numeral : (minus : Bool) (digits : List ℕ) → is_numeral digits ≡ true → value_of_digits minus digits ≡ with_sign minus (value digits)
unfolding value_of_digits
read_numeral minus digits e = ap (λ b. if b then with_sign minus (value digits) else None) e

pub numeral_read : (minus : Bool) (digits : List ℕ) (z : ℤ) → value_of_digits minus digits ≡ Some z → (is_numeral digits ≡ true) × (with_sign minus (value digits) ≡ Some z)
unfolding value_of_digits
numeral_read minus digits z e = if_is_some (is_numeral digits) (with_sign minus (value digits)) z e

pub int_is : (text : List ℕ) (minus : Bool) → has_minus text ≡ minus → int_of text ≡ value_of_digits minus (if minus then drop 1 text else text)
unfolding int_of value_of_digits
int_is text minus is = ap (λ b. value_of_digits b (if b then drop 1 text else text)) is

parses_plain : {E : Type 0} (text : List ℕ) (r : Result ℤ E) → ParsesSigned w128 10 text r → is_numeral text ≡ true → result_ok r ≡ with_sign false (value text)
parses_plain text r h e =
    test_decides r ((0 < length text) × (value text < 2 ^ 127)) (pos (value text)) (nat_lt (value text) (2 ^ 127))
    (parse_signed_digits own w128 text r h (digits_after text e))
    (λ q. let below : value text < 2 ^ 127 = q.1 in grind (arith, nat_tests))
    (λ t. (some_digit text e, ltb-true _ _ t))

parses_minus : {E : Type 0} (text : List ℕ) (r : Result ℤ E) → ParsesSigned w128 10 text r → get_or text 0 0 ≡ 45 → is_numeral (drop 1 text) ≡ true → result_ok r ≡ with_sign true (value (drop 1 text))
parses_minus text r h sign e =
    let digits = drop 1 text in
    test_decides r ((list_all is_digit digits ≡ true) × (0 < length digits) × (value digits ≤ 2 ^ 127)) (neg_ℤ (pos (value digits))) (nat_le (value digits) (2 ^ 127))
    (parse_signed_minus own w128 text r h sign)
    (λ q. let below : value digits ≤ 2 ^ 127 = q.2 in grind (arith, nat_tests))
    (λ t. (digits_after digits e, some_digit digits e, leb-true _ _ t))

pub int_parses : {E : Type 0} (text : List ℕ) (r : Result ℤ E) → ParsesSigned w128 10 text r → is_numeral (without_minus text) ≡ true → result_ok r ≡ int_of text
int_parses text r h e = by_minus (has_minus text) refl where
  by_minus : (minus : Bool) → has_minus text ≡ minus → result_ok r ≡ int_of text
  by_minus false is = parses_plain text r h (numeral text e false is) ∙ sym (int_is text false is ∙ read_numeral false text (numeral text e false is))
  by_minus true is = parses_minus text r h (eqb-true _ _ is) (numeral text e true is) ∙ sym (int_is text true is ∙ read_numeral true (drop 1 text) (numeral text e true is))
