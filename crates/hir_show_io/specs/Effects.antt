-- What calls of a source or a sink do to the bytes that it shows.
use Rattle.std.specs.Prelude.{◌≡◌, ℕ, List, ◌++◌, Option, None, Some}
use Rattle.std.specs.Io.KnownBytes.{Appends, Keeps}

-- what a failed call leaves: the shown bytes as they were, or no longer shown
abbrev pub IsKeptOrUntold : Option (List ℕ) → Option (List ℕ) → Type 0
IsKeptOrUntold old None = Unit {0}
IsKeptOrUntold old (Some bytes) = Keeps old (Some bytes)

-- the shown bytes grew by a prefix of these bytes, or are no longer shown
abbrev pub AppendsPrefix : Option (List ℕ) → Option (List ℕ) → List ℕ → Type 0
AppendsPrefix None new bytes = Unit {0}
AppendsPrefix (Some xs) None bytes = Unit {0}
AppendsPrefix (Some xs) (Some ys) bytes =
    (done missing : List ℕ) × (bytes ≡ done ++ missing) × (ys ≡ xs ++ done)

-- all of these bytes but the suffix that is left were written
abbrev pub IsWrittenUpTo : Option (List ℕ) → Option (List ℕ) → List ℕ → List ℕ → Type 0
IsWrittenUpTo old new bytes rest = (done : List ℕ) × (bytes ≡ done ++ rest) × Appends old new done
