-- Beside Buffer.antt: what only contracts within this crate cite.
use Rattle.std.specs.Prelude.{◌≢◌, ℕ, ◌<◌, List, length, slice_index}

-- a text without a line end
abbrev pub HasNoEnd : List ℕ → Type 0
HasNoEnd cs = (i : ℕ) → i < length cs → slice_index cs i ≢ 10
