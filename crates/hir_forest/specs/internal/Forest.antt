-- Beside Forest.antt: what only contracts within this crate cite.
use Rattle.std.specs.Prelude.{ℕ, ◌<◌, ◌↔◌, Bool, List, Contains}
use Rattle.hir_forest.specs.Forest.{Marks}

-- the table marks exactly the members of the list
abbrev pub MarksAll : List Bool → List ℕ → Type 0
MarksAll table xs = (c : ℕ) → Marks table c ↔ Contains xs c

-- the table marks exactly the listed nodes below limit
abbrev pub MarksRoots : List Bool → ℕ → List ℕ → Type 0
MarksRoots table limit roots = (c : ℕ) → Marks table c ↔ (Contains roots c × (c < limit))
