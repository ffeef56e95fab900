-- Defines the lists of children of a graph, to which children are added one after the other.
use Rattle.std.specs.Prelude.{ℕ, List, [], ◌∷◌, ◌++◌}

-- the graph whose last list has these children more
abbrev pub with_children : List (List ℕ) → List ℕ → List (List ℕ)
with_children [] children = []
with_children (row ∷ []) children = (row ++ children) ∷ []
with_children (row ∷ next ∷ rows) children = row ∷ with_children (next ∷ rows) children
