-- A numeral is what its value is in decimal.
use Rattle.std.proofs.Common.{◌≡◌, ◌≢◌, ◌<◌, ◌≤◌, ◌^◌, ◌+◌, ◌-◌, ◌*◌, ◌/◌, ◌%◌, ℕ, suc, zero, Bool, true, false, List, [], ◌∷◌, ◌++◌, take, length, get_or, arith, refl, sym, ap, ◌∙◌, length-take, get_or-take, take_all, length-append, inl, inr}
use Rattle.std.specs.Fmt.{decimal}
use Rattle.std.specs.List.{list_all}
use Rattle.std.proofs.lemmas.Bool.{cases_lt}
use Rattle.std.proofs.lemmas.Bool.Decides.{nat_tests}
use Rattle.std.proofs.lemmas.List.{take_more, get_or_append_left}
use Rattle.std.proofs.lemmas.List.Sums.{AllPass-from_list_all, list_all-from_AllPass}
use Rattle.std.proofs.lemmas.Fmt.{decimal_is_IsNumeral_wide, decimal_digit, decimal_step_wide, decimal_by_steps_wide}
use Rattle.hir_show_grammar.specs.Numerals.{is_digit, value, is_numeral, has_needless_zero}
use Rattle.hir_show_grammar.proofs.Digits.{digit_high, value-next, value-prefix}
use Rattle.hir_show_grammar.proofs.Integers.{own, digits_after, some_digit}

-- no needless zero, as a number that stands alone has none
abbrev NoNeedless : List ℕ → Type 0
NoNeedless digits = get_or digits 0 0 ≡ 48 → length digits ≡ 1

digit_at : (digits : List ℕ) → list_all is_digit digits ≡ true → (k : ℕ) → k < length digits → is_digit (get_or digits k 0) ≡ true
digit_at digits all k within = AllPass-from_list_all is_digit digits all k 0 within

digit_low : (b : ℕ) → is_digit b ≡ true → 48 ≤ b
digit_low b e = grind (arith, nat_tests)

take_digits : (digits : List ℕ) (i : ℕ) → i ≤ length digits → list_all is_digit digits ≡ true → list_all is_digit (take i digits) ≡ true
take_digits digits i h all = list_all-from_AllPass is_digit (take i digits) (λ k d within.
    let below : k < i = omega (arith, length-take i digits) in
    let inside : k < length digits = omega (arith, length-take i digits) in
    rw (get_or-take {A = ℕ} i digits k d below) (AllPass-from_list_all is_digit digits all k d inside))

value_one : (digits : List ℕ) → length digits ≡ 1 → value digits ≡ get_or digits 0 0 - 48
value_one digits one =
    let all : take 1 digits ≡ digits = take_all 1 digits (omega arith) in
    let next = value-next digits 0 (omega arith) in
    ap value (sym all) ∙ next ∙ omega arith

-- the value of digits that don't begin with a zero isn't 0
value_pos : (digits : List ℕ) → 0 < length digits → 48 < get_or digits 0 0 → 0 < value digits
value_pos digits some first =
    let next = value-next digits 0 some in
    omega (arith, next, value-prefix digits 1)

decimal_of : (k : ℕ) (digits : List ℕ) → length digits ≡ suc k → list_all is_digit digits ≡ true → NoNeedless digits → value digits < 10 ^ 64 → decimal (value digits) ≡ digits
decimal_of zero digits len all plain small =
    let one : length digits ≡ 1 = omega (arith, len) in
    let d : ℕ = get_or digits 0 0 in
    let digit = digit_at digits all 0 (omega arith) in
    let low : 48 ≤ d = digit_low d digit in
    let high : d ≤ 57 = digit_high d digit in
    let v : value digits ≡ d - 48 = value_one digits one in
    let whole : digits ≡ d ∷ [] = sym (take_all 1 digits (omega arith)) ∙ take_more digits 0 0 (omega arith) in
    decimal_digit (value digits) (omega arith) ∙ ap (λ b. b ∷ []) (omega arith) ∙ sym whole
decimal_of (suc k) digits len all plain small =
    let within : suc k < length digits = omega (arith, len) in
    let prefix : List ℕ = take (suc k) digits in
    let d : ℕ = get_or digits (suc k) 0 in
    let digit = digit_at digits all (suc k) within in
    let low : 48 ≤ d = digit_low d digit in
    let high : d ≤ 57 = digit_high d digit in
    let every : take (suc k + 1) digits ≡ digits = take_all (suc k + 1) digits (omega arith) in
    let whole : digits ≡ prefix ++ d ∷ [] = sym every ∙ take_more digits (suc k) 0 within in
    let v : value digits ≡ 10 * value prefix + (d - 48) = ap value (sym every) ∙ value-next digits (suc k) within in
    let size : length prefix ≡ suc k = omega (arith, length-take (suc k) digits) in
    let same_first : get_or prefix 0 0 ≡ get_or digits 0 0 = get_or-take {A = ℕ} (suc k) digits 0 0 (omega arith) in
    let other : get_or digits 0 0 ≢ 48 = λ zero_first. absurd (omega (arith, plain zero_first)) in
    let first_low : 48 ≤ get_or digits 0 0 = digit_low _ (digit_at digits all 0 (omega arith)) in
    let some : 0 < value prefix = value_pos prefix (omega arith) (omega (arith, same_first, first_low, other)) in
    let prefix_small : value prefix < 10 ^ 64 = omega arith in
    let shorter : decimal (value prefix) ≡ prefix =
    decimal_of k prefix size (take_digits digits (suc k) (omega arith) all) (λ zero_first. absurd (other (sym same_first ∙ zero_first))) prefix_small in
    let quotient : value digits / 10 ≡ value prefix = omega arith in
    let last : 48 + value digits % 10 ≡ d = omega arith in
    decimal_step_wide (value digits) (omega arith) small
    ∙ ap (λ m. decimal m ++ (48 + value digits % 10) ∷ []) quotient
    ∙ ap (λ ds. ds ++ (48 + value digits % 10) ∷ []) shorter
    ∙ ap (λ b. prefix ++ b ∷ []) last
    ∙ sym whole

not_needless : (digits : List ℕ) → is_numeral digits ≡ true → NoNeedless digits
not_needless digits e zero_first = grind (arith, nat_tests)

-- a numeral is its value in decimal
pub decimal-value : (digits : List ℕ) → is_numeral digits ≡ true → value digits < 10 ^ 64 → decimal (value digits) ≡ digits
decimal-value digits e small = by_length (length digits) refl where
  by_length : (n : ℕ) → length digits ≡ n → decimal (value digits) ≡ digits
  by_length zero none = absurd (omega (arith, some_digit digits e))
  by_length (suc k) len = decimal_of k digits len (digits_after digits e) (not_needless digits e) small

-- what is written in decimal is a numeral of that value
pub value-decimal : (n : ℕ) → n < 10 ^ 64 → value (decimal n) ≡ n
value-decimal n small =
    let numeral = decimal_is_IsNumeral_wide n small in
    own.same (decimal n) numeral.0.1 ∙ numeral.1

pub digits-decimal : (n : ℕ) → n < 10 ^ 64 → list_all is_digit (decimal n) ≡ true
digits-decimal n small = own.from (decimal n) (decimal_is_IsNumeral_wide n small).0.1

abbrev WellBegun : ℕ → List ℕ → Type 0
WellBegun n digits = (0 < length digits) × (0 < n → 48 < get_or digits 0 0) × (n < 10 → length digits ≡ 1)

well_begun : (n : ℕ) → n < 10 ^ 64 → WellBegun n (decimal n)
well_begun = decimal_by_steps_wide WellBegun one more where
  one : (n : ℕ) → n < 10 → WellBegun n ((48 + n) ∷ [])
  one n h = (omega arith, λ some. omega arith, λ _. refl)

  more : (n : ℕ) (ds : List ℕ) → 10 ≤ n → WellBegun (n / 10) ds → WellBegun n (ds ++ ((48 + n % 10) ∷ []))
  more n ds h begun =
      let some : 0 < n / 10 = omega arith in
      let same : get_or (ds ++ (48 + n % 10) ∷ []) 0 0 ≡ get_or ds 0 0 = get_or_append_left ds ((48 + n % 10) ∷ []) 0 0 begun.0 in
      (omega (arith, length-append ds ((48 + n % 10) ∷ [])), λ _. omega (arith, same, begun.1 some), λ small. absurd (omega arith))

numeral_from : (digits : List ℕ) → 0 < length digits → NoNeedless digits → list_all is_digit digits ≡ true → is_numeral digits ≡ true
numeral_from digits some plain all = by_length (has_needless_zero digits) refl where
  by_length : (needless : Bool) → has_needless_zero digits ≡ needless → is_numeral digits ≡ true
  by_length false e = grind (arith, nat_tests)
  by_length true e =
      let long : 1 < length digits = grind (arith, nat_tests) in
      let zero_first : get_or digits 0 0 ≡ 48 = grind (arith, nat_tests) in
      absurd (omega (arith, plain zero_first))

pub numeral-decimal : (n : ℕ) → n < 10 ^ 64 → is_numeral (decimal n) ≡ true
numeral-decimal n small =
    let begun = well_begun n small in
    let all = digits-decimal n small in
    elim (cases_lt 0 n) [
      | inl some ↦ numeral_from (decimal n) begun.0 (λ zero_first. absurd (omega (arith, zero_first, begun.1 some))) all
      | inr none ↦ numeral_from (decimal n) begun.0 (λ _. begun.2 (omega arith)) all
    ]
