-- What the words after `type` say.
use Rattle.std.specs.Prelude.{◌∷◌}
use Rattle.hir_show_grammar.specs.Prelude.{ℕ, List, [], codes, ExprId, TypeRefId, ArrayType, TypeRef, Never, Array, PatternType}
use Rattle.hir_node.specs.declared.type_ref.TypeRef.TheVariants.{Tuple, Path}
use Rattle.hir_show_grammar.specs.Readings.{Reading, ◌>>=◌, gives}
use Rattle.hir_show_grammar.specs.Words.{number, list, path, one_of}

abbrev pub path_type : Reading TypeRef
path_type = do
  of ← path
  gives (Path of)

abbrev pub tuple_type : Reading TypeRef
tuple_type = do
  types ← list
  gives (Tuple types)

-- the type of an array with this element and this length
abbrev pub array_of : TypeRefId → ExprId → ArrayType
array_of element len = record { ty = element; len = record { expr = len } }

abbrev pub array_type : Reading TypeRef
array_type = do
  element ← number
  len ← number
  gives (Array (array_of element len))

abbrev pub pattern_type : Reading TypeRef
pattern_type = do
  ty ← number
  pat ← number
  gives (PatternType ty pat)

abbrev pub type_forms : List (List ℕ × Reading TypeRef)
type_forms =
    (codes "path", path_type)
    ∷ (codes "tuple", tuple_type)
    ∷ (codes "array", array_type)
    ∷ (codes "pattern", pattern_type)
    ∷ (codes "never", gives Never)
    ∷ []

-- the words after `type`
unfoldable pub type_ref : Reading TypeRef
type_ref words = one_of type_forms words
