-- The path that a path is qualified by.
use Rattle.std.proofs.Common.{◌≡◌, ℕ, List, [], ◌∷◌, Option, Some, None, refl, rules}
use Rattle.std.specs.Prelude.{IsSome}
use Rattle.hir_path.specs.declared.path.Path.{Path}
use Rattle.hir_path.specs.Paths.{qualifier_of}

pub qualified_is : (o : Option (List ℕ)) (names : List (List ℕ)) (path : Path) → (IsSome o → ⊥) → (names ≡ [] → ⊥) → qualifier_of o names path ≡ Some path
qualified_is (Some name) names path named full = absurd (named (search rules))
qualified_is None [] path named full = absurd (full refl)
qualified_is None (name ∷ names) path named full = refl
