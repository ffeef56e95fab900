-- Beside Text.antt: what only contracts within this crate cite.
use Rattle.std.specs.Prelude.{◌≡◌, ℕ, ◌+◌, ◌<◌, List, ◌∷◌, ◌++◌, length, take, drop, Option, None, Some}
use Rattle.hir_show_io.specs.Text.{HasNoLineEnd}

-- the index of the first line end
abbrev pub IsFirstLineEnd : List ℕ → Option ℕ → Type 0
IsFirstLineEnd bytes None = HasNoLineEnd bytes
IsFirstLineEnd bytes (Some i) =
    (i < length bytes) × HasNoLineEnd (take i bytes) × (bytes ≡ take i bytes ++ 10 ∷ drop (i + 1) bytes)
