-- Defines the keys of the maps of a source map, its two parts without entries, that of expressions and that
-- of types, and when the first is kept.
use Rattle.std.specs.Prelude.{◌∷◌, ◌++◌, ◌||◌, ◌==◌}
use Rattle.hir_source_map.specs.Prelude.{ℕ, List, [], length, Bool, not, Option, Some, None, nat_eq, PatId, BindingId, by_code, node_code, InFile, SyntaxNodePtr}
use Rattle.std.specs.FinMap as map
use Rattle.hir_source_map.specs.declared.sources.ExprSources.{ExprSources}
use Rattle.hir_source_map.specs.declared.sources.TypeSources.{TypeSources}

-- a source: a node of syntax, and its file
abbrev pub Source : Type 0
Source = InFile SyntaxNodePtr

-- the key of a source: its file, and the kind and the range of its node
abbrev pub source_key : Source → List ℕ
source_key source = source.file_id ∷ node_code source.value

-- the key of an id: its number
abbrev pub id_key : ℕ → List ℕ
id_key id = id ∷ []

abbrev pub no_expr_sources : ExprSources
no_expr_sources = record {
  expr_map = map.empty;
  expr_map_back = map.empty;
  pat_map = map.empty;
  pat_map_back = map.empty;
  label_map = map.empty;
  label_map_back = map.empty;
  definitions = map.empty;
  field_map_back = map.empty;
  pat_field_map_back = map.empty;
  expansions = map.empty;
  diagnostics = [];
}

abbrev pub no_type_sources : TypeSources
no_type_sources =
    record {
      type_map = map.empty;
      type_map_back = map.empty;
      lifetime_map = map.empty;
      lifetime_map_back = map.empty;
    }

-- whether there is an expansion or a diagnostic
abbrev pub has_news : ExprSources → Bool
has_news p = not (map.len p.expansions == 0) || not (nat_eq (length p.diagnostics) 0)

abbrev pub list_or_none : Option (List PatId) → List PatId
list_or_none None = []
list_or_none (Some list) = list

-- the patterns that define a binding, in the order in which they were added
abbrev pub patterns_of : map.FinMap by_code (List PatId) → BindingId → List PatId
patterns_of definitions binding = list_or_none (map.get definitions (id_key binding))

-- the definitions with one more pattern of this binding, after its others
abbrev pub and_definition : map.FinMap by_code (List PatId) → BindingId → PatId
    → map.FinMap by_code (List PatId)
and_definition definitions binding pat =
    map.insert definitions (id_key binding) (patterns_of definitions binding ++ pat ∷ [])
