-- Defines the model of a path without arguments.
use Rattle.std.specs.Prelude.{ℕ, List, [], ◌∷◌, Option, Some, None}
use Rattle.hir_base.specs.declared.mod_path.PathKind.{PathKind}
use Rattle.hir_base.specs.declared.mod_path.PathKind.TheVariants.{Plain}

-- where it begins, and its names
pub record ModPath : Type 0 where
  pub kind : PathKind
  pub segments : List (List ℕ)

abbrev one_name : PathKind → List (List ℕ) → Option (List ℕ)
one_name Plain (name ∷ []) = Some name
one_name kind names = None

-- the name of a path that is plain and has one segment
abbrev pub ident_of : ModPath → Option (List ℕ)
ident_of path = one_name path.kind path.segments
