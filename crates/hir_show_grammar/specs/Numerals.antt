-- Numbers, as they are written in a line.
use Rattle.std.specs.Prelude.{ℕ, ◌+◌, ◌-◌, ◌*◌, ◌^◌, ℤ, pos, neg_ℤ, Bool, not, ◌&&◌, eqb, nat_lt, nat_le, if◌then◌else◌, List, Option, None, Some, fold, length, drop, slice_index}
use Rattle.std.specs.List.{list_all}

abbrev pub is_digit : ℕ → Bool
is_digit b = nat_le 48 b && nat_le b 57

-- the value of digits
abbrev pub value : List ℕ → ℕ
value digits = fold (λ n b. 10 * n + (b - 48)) 0 digits

-- a zero before another digit
abbrev pub has_needless_zero : List ℕ → Bool
has_needless_zero text = nat_lt 1 (length text) && eqb (slice_index text 0) 48

-- one digit or more, and no leading zero
abbrev pub is_numeral : List ℕ → Bool
is_numeral text = not (eqb (length text) 0) && (not (has_needless_zero text) && list_all is_digit text)

abbrev pub if_below : ℕ → ℕ → Option ℕ
if_below limit n = if nat_lt n limit then Some n else None

-- a number: a numeral below 2 ^ 32
unfoldable pub number_of : List ℕ → Option ℕ
number_of text = if is_numeral text then if_below (2 ^ 32) (value text) else None

abbrev pub has_minus : List ℕ → Bool
has_minus text = eqb (slice_index text 0) 45

abbrev pub without_minus : List ℕ → List ℕ
without_minus text = if has_minus text then drop 1 text else text

-- the number with or without a minus, if it is at least -2 ^ 127 and below 2 ^ 127
abbrev pub with_sign : Bool → ℕ → Option ℤ
with_sign minus n =
    if minus then (if nat_le n (2 ^ 127) then Some (neg_ℤ (pos n)) else None)
    else (if nat_lt n (2 ^ 127) then Some (pos n) else None)

-- an integer: a numeral, perhaps after a minus
unfoldable pub int_of : List ℕ → Option ℤ
int_of text =
    if is_numeral (without_minus text) then with_sign (has_minus text) (value (without_minus text)) else None
