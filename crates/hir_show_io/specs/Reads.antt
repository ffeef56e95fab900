-- The lines that were read from the bytes that a source shows.
use Rattle.std.specs.Prelude.{◌≡◌, ℕ, Bool, List, ◌++◌, Option, None, Some, IfSome}
use Rattle.hir_show_io.specs.Text.{lines, IsRead, IsCutShort}

-- these lines were read from the shown bytes, and these are still to be taken
abbrev pub ReadsLines : Option (List ℕ) → List (List ℕ) → Option (List ℕ) → Bool → Type 0
ReadsLines None texts rest at_end = Unit {0}
ReadsLines (Some input) texts None at_end = ⊥
ReadsLines (Some input) texts (Some rest) at_end = IsRead input texts rest at_end

-- these are all the lines of the shown bytes
abbrev pub ReadsAll : Option (List ℕ) → List (List ℕ) → Type 0
ReadsAll known texts = IfSome known (λ input. lines input ≡ texts)

-- these are the first lines of the shown bytes
abbrev pub ReadsPrefix : Option (List ℕ) → List (List ℕ) → Type 0
ReadsPrefix known texts = IfSome known (λ input. (more : List (List ℕ)) × (lines input ≡ texts ++ more))

-- a read failed after these lines of the shown bytes and the beginning of one more
abbrev pub ReadsUntilFailure : Option (List ℕ) → List (List ℕ) → List ℕ → Option (List ℕ) → Type 0
ReadsUntilFailure known texts begun remaining =
    IfSome known
    (λ input. (unread : List ℕ) × IsCutShort input texts begun unread
    × IfSome remaining (λ rest. rest ≡ unread))
