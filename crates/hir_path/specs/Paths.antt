-- Defines the parts of a path, its qualifier, and when it is `Self`.
use Rattle.std.specs.Prelude.{◌≡◌, Bool, cond, is_none, IsTrue, List, [], ◌∷◌, codes, Option, Some, None}
use Rattle.std.specs.List.{list_all}
use Rattle.std.specs.Option.{option_to_list}
use Rattle.hir_base.specs.Ids.{Name}
use Rattle.hir_base.specs.ModPath.{ModPath, ident_of}
use Rattle.hir_base.specs.declared.mod_path.PathKind.{PathKind}
use Rattle.hir_base.specs.declared.mod_path.PathKind.TheVariants.{Abs, Plain}
use Rattle.hir_path.specs.declared.path.GenericArgs.{GenericArgs}
use Rattle.hir_path.specs.declared.path.NormalPath.{NormalPath}
use Rattle.hir_path.specs.declared.path.Path.{Path}
use Rattle.hir_path.specs.declared.path.Path.TheVariants.{BarePath, Normal, LangItem}
use Rattle.hir_path.specs.Segments.{Segments}
use Rattle.hir_path.specs.Lists.{all_but}
use Rattle.hir_path.specs.NodeIds.{TypeRefId}

-- where a path begins
abbrev pub kind_of : Path → PathKind
kind_of (BarePath path) = path.kind
kind_of (Normal normal) = normal.mod_path.kind
kind_of (LangItem target name) = Abs

-- the type that a path begins at, its anchor
abbrev pub anchor_of : Path → Option TypeRefId
anchor_of (BarePath path) = None
anchor_of (Normal normal) = normal.type_anchor
anchor_of (LangItem target name) = None

-- the generic arguments of each segment of a path
abbrev pub lists_of : Path → Option (List (Option GenericArgs))
lists_of (BarePath path) = None
lists_of (Normal normal) = Some normal.generic_args
lists_of (LangItem target name) = None

-- the names of a path
abbrev pub names_of : Path → List Name
names_of (BarePath path) = path.segments
names_of (Normal normal) = normal.mod_path.segments
names_of (LangItem target name) = option_to_list name

-- the path without anchor and arguments
abbrev pub mod_path_of : Path → Option ModPath
mod_path_of (BarePath path) = Some path
mod_path_of (Normal normal) = Some normal.mod_path
mod_path_of (LangItem target name) = None

abbrev pub segments_of : Path → Segments
segments_of path = record { names = names_of path; lists = lists_of path }

-- whether no segment has arguments
abbrev pub no_args : List (Option GenericArgs) → Bool
no_args lists = list_all is_none lists

-- the normal path of these segments and arguments, with no anchor
abbrev pub without_anchor : ModPath → List (Option GenericArgs) → NormalPath
without_anchor path lists = record { generic_args = lists; type_anchor = None; mod_path = path }

-- the plain path of one name
abbrev pub one_name : Name → Path
one_name name = BarePath (record { kind = Plain; segments = name ∷ [] })

-- the path with this anchor and these arguments: a bare path, if it has neither
abbrev pub path_with : Option TypeRefId → ModPath → List (Option GenericArgs) → Path
path_with None path lists = cond (no_args lists) (BarePath path) (Normal (without_anchor path lists))
path_with (Some anchor) path lists =
    Normal (record { generic_args = lists; type_anchor = Some anchor; mod_path = path })

-- the path without its last segment
abbrev pub but_last : ModPath → ModPath
but_last path = record { kind = path.kind; segments = all_but 1 path.segments }

-- the path without its last segment and the last of its lists
abbrev pub shorter : Option TypeRefId → ModPath → List (Option GenericArgs) → Path
shorter anchor path lists = path_with anchor (but_last path) (all_but 1 lists)

-- None for an identifier and for a path without segments, else the shorter path
abbrev pub qualifier_of : Option Name → List Name → Path → Option Path
qualifier_of (Some name) names path = None
qualifier_of None [] path = None
qualifier_of None (name ∷ names) path = Some path

-- the path before the last segment
abbrev pub qualifier : Path → Option Path
qualifier (BarePath path) = qualifier_of (ident_of path) path.segments (shorter None path [])
qualifier (Normal normal) =
    let path = normal.mod_path in
    qualifier_of (ident_of path) path.segments (shorter normal.type_anchor path normal.generic_args)
qualifier (LangItem target name) = None

-- the path is the identifier `Self`, with no anchor and no arguments
abbrev pub IsSelfType : Path → Type 0
IsSelfType (BarePath path) = ident_of path ≡ Some (codes "Self")
IsSelfType (Normal normal) =
    (normal.type_anchor ≡ None) × (ident_of normal.mod_path ≡ Some (codes "Self"))
    × IsTrue (no_args normal.generic_args)
IsSelfType (LangItem target name) = ⊥
