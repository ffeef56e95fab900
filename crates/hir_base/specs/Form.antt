-- Defines the model of the form in which a path without arguments is stored.
use Rattle.std.specs.Prelude.{[], ◌∷◌}
use Rattle.hir_base.specs.ModPath.{ModPath}
use Rattle.hir_base.specs.declared.mod_path.PathKind.TheVariants.{Plain}
use Rattle.hir_base.specs.declared.mod_path.Form.{Form}
use Rattle.hir_base.specs.declared.mod_path.Form.TheVariants.{Ident, Apart}

-- the path of a stored form
abbrev pub path_in : Form → ModPath
path_in (Ident name) = record { kind = Plain; segments = name ∷ [] }
path_in (Apart parts) = record { kind = parts.value.kind; segments = parts.value.names }
