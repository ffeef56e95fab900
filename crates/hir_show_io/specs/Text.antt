-- The lines of a text, and which of them were read.
use Rattle.std.specs.Prelude.{◌≡◌, ℕ, ◌+◌, ◌<◌, Bool, true, false, eqb, List, [], ◌∷◌, ◌++◌, length, flat_map, All, ◌⊎◌}
use Rattle.std.specs.List.{slice_split, AllByRecursion}

abbrev pub is_line_end : ℕ → Bool
is_line_end b = eqb b 10

-- these parts, but for a last one that is empty
abbrev pub without_empty_last : List (List ℕ) → List (List ℕ)
without_empty_last [] = []
without_empty_last ([] ∷ []) = []
without_empty_last ((b ∷ bs) ∷ []) = (b ∷ bs) ∷ []
without_empty_last (part ∷ other ∷ parts) = part ∷ without_empty_last (other ∷ parts)

-- the lines of a text, without their ends; the last line may lack its own
abbrev pub lines : List ℕ → List (List ℕ)
lines text = without_empty_last (slice_split is_line_end text)

abbrev pub with_line_end : List ℕ → List ℕ
with_line_end line = line ++ 10 ∷ []

abbrev pub HasNoLineEnd : List ℕ → Type 0
HasNoLineEnd bytes = All (λ b. is_line_end b ≡ false) bytes

-- the first line of a text, and the text after it; only if no more bytes can come is a line without its end
-- one
abbrev pub TakesLine : List ℕ → List ℕ → List ℕ → Bool → Type 0
TakesLine text rest line at_end =
    HasNoLineEnd line
    × ((text ≡ line ++ 10 ∷ rest) ⊎ ((at_end ≡ true) × (0 < length line) × (text ≡ line) × (rest ≡ [])))

-- these are the first lines of the input, and this is what follows them; before its end is reached, each of
-- them has its own line end
abbrev pub IsRead : List ℕ → List (List ℕ) → List ℕ → Bool → Type 0
IsRead input texts rest false = (input ≡ flat_map with_line_end texts ++ rest)
    × AllByRecursion HasNoLineEnd texts
IsRead input texts rest true = lines input ≡ texts ++ lines rest

-- these are the first lines of the input, then a line was begun, and the rest wasn't read
pub record IsCutShort (input : List ℕ) (texts : List (List ℕ)) (begun unread : List ℕ) : Type 0 where
  pub whole : input ≡ flat_map with_line_end texts ++ begun ++ unread
  pub each : AllByRecursion HasNoLineEnd texts
  pub no_end : HasNoLineEnd begun
