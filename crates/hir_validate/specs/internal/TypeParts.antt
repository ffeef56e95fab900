-- Defines the parts that a node holds, as the model of the code's references to them.
use Rattle.std.specs.Prelude.{◌≡◌}
use Rattle.hir_validate.specs.Prelude.{Bool, true, false, List, Option, Some, None, option_copied, Path, TypeRef}
use Rattle.hir_path.specs.declared.path.Path.TheVariants as path
use Rattle.hir_validate.specs.declared.type_parts.TypeParts.{TypeParts}
use Rattle.hir_validate.specs.TestedParts.{HeldParts, names_paths, gives_self, lists_fit}

abbrev pub type_parts_of : TypeParts → HeldParts
type_parts_of h = record { path = option_copied h.path; args = option_copied h.args; bounds = h.bounds.now }

-- whether the path, if there is one, may have generic arguments
abbrev pub may_have_args : Option Path → Bool
may_have_args None = false
may_have_args (Some (path.BarePath mod_path)) = false
may_have_args (Some (path.Normal normal)) = true
may_have_args (Some (path.LangItem target name)) = false

-- no part that is held has a fault
pub record IsFine (h : HeldParts) : Type 0 where
  pub paths : (types : List TypeRef) → names_paths types h ≡ true
  pub gives_self : gives_self h ≡ true
  pub lists_fit : lists_fit h ≡ true
