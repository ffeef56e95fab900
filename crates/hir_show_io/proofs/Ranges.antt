-- Parts of a list by their places.
use Rattle.std.proofs.Common.{◌≡◌, ◌+◌, ◌-◌, ◌≤◌, ℕ, List, [], ◌++◌, take, drop, length, refl, sym, ◌∙◌, arith, take-append-drop, drop-drop, length-take, length-drop}
use Rattle.std.specs.Prelude.{slice_range}
use Rattle.std.proofs.lemmas.List.{drop-take, take-take}

-- the part from a up to b, by its first k elements and those behind them
pub range_take : (xs : List ℕ) (a b k : ℕ) → a + k ≤ b → take k (slice_range xs a b) ≡ slice_range xs a (a + k)
range_take xs a b k h =
    let shorter : k ≤ b - a = omega arith in
    let same : (a + k) - a ≡ k = omega arith in
    rw same (take-take k (b - a) (drop a xs) shorter)

pub range_drop : (xs : List ℕ) (a b k : ℕ) → a + k ≤ b → drop k (slice_range xs a b) ≡ slice_range xs (a + k) b
range_drop xs a b k h =
    let whole : k + (b - (a + k)) ≡ b - a = omega arith in
    rw (← drop-drop k a xs, ← whole) (drop-take k (b - (a + k)) (drop a xs))

pub range_joined : (xs : List ℕ) (a b c : ℕ) → a ≤ b → b ≤ c → slice_range xs a c ≡ slice_range xs a b ++ slice_range xs b c
range_joined xs a b c ab bc =
    let gap : a + (b - a) ≡ b = omega arith in
    let fits : a + (b - a) ≤ c = omega arith in
    let prefix = rw gap at (range_take xs a c (b - a) fits) in
    let back = rw gap at (range_drop xs a c (b - a) fits) in
    sym (take-append-drop (b - a) (slice_range xs a c)) ∙ rw (prefix, back) refl

pub length_range : (xs : List ℕ) (a b : ℕ) → b ≤ length xs → length (slice_range xs a b) ≡ b - a
length_range xs a b h = omega (arith, length-take (b - a) (drop a xs), length-drop a xs)

pub range_none : (xs : List ℕ) (a : ℕ) → slice_range xs a a ≡ []
range_none xs a = let none : a - a ≡ 0 = omega arith in rw none refl
