-- Defines what lookups in a source map return: the entry of a map, if the part that has the map is kept.
use Rattle.hir_source_map.specs.Prelude.{ℕ, List, [], Option, Some, None, Result, Ok, Err, MacroCallId, by_code, SyntheticSyntax, ExprOrPatId, ExprId, PatId, BindingId, LabelId, TypeRefId, LifetimeRefId}
use Rattle.std.specs.FinMap as map
use Rattle.hir_path.specs.declared.ids.ExprOrPatId.TheVariants as id
use Rattle.hir_source_map.specs.declared.diagnostics.ExpressionStoreDiagnostics.{ExpressionStoreDiagnostics}
use Rattle.hir_source_map.specs.declared.sources.ExprSources.{ExprSources}
use Rattle.hir_source_map.specs.declared.source_map.ExpressionStoreSourceMap.{ExpressionStoreSourceMap}
use Rattle.hir_source_map.specs.Sources.{Source, source_key, id_key, patterns_of}

abbrev pub entry : {V : Type 0} → (ExprSources → map.FinMap by_code V) → Option ExprSources → List ℕ
    → Option V
entry family None key = None
entry family (Some part) key = map.get (family part) key

-- the nodes and expansions that sources became
abbrev pub expr_at : ExpressionStoreSourceMap → Source → Option ExprOrPatId
expr_at m source = entry (λ p. p.expr_map) m.exprs (source_key source)

abbrev pub pat_at : ExpressionStoreSourceMap → Source → Option ExprOrPatId
pat_at m source = entry (λ p. p.pat_map) m.exprs (source_key source)

abbrev pub label_at : ExpressionStoreSourceMap → Source → Option LabelId
label_at m source = entry (λ p. p.label_map) m.exprs (source_key source)

abbrev pub type_at : ExpressionStoreSourceMap → Source → Option TypeRefId
type_at m source = map.get m.types.type_map (source_key source)

abbrev pub expansion_at : ExpressionStoreSourceMap → Source → Option MacroCallId
expansion_at m source = entry (λ p. p.expansions) m.exprs (source_key source)

-- the sources that nodes came from
abbrev pub expr_source : ExpressionStoreSourceMap → ExprId → Option Source
expr_source m id = entry (λ p. p.expr_map_back) m.exprs (id_key id)

abbrev pub pat_source : ExpressionStoreSourceMap → PatId → Option Source
pat_source m id = entry (λ p. p.pat_map_back) m.exprs (id_key id)

abbrev pub expr_or_pat_source : ExpressionStoreSourceMap → ExprOrPatId → Option Source
expr_or_pat_source m (id.ExprId n) = expr_source m n
expr_or_pat_source m (id.PatId n) = pat_source m n

abbrev pub label_source : ExpressionStoreSourceMap → LabelId → Option Source
label_source m id = entry (λ p. p.label_map_back) m.exprs (id_key id)

abbrev pub type_source : ExpressionStoreSourceMap → TypeRefId → Option Source
type_source m id = map.get m.types.type_map_back (id_key id)

abbrev pub lifetime_source : ExpressionStoreSourceMap → LifetimeRefId → Option Source
lifetime_source m id = map.get m.types.lifetime_map_back (id_key id)

abbrev pub field_source : ExpressionStoreSourceMap → ExprId → Option Source
field_source m id = entry (λ p. p.field_map_back) m.exprs (id_key id)

abbrev pub pat_field_source : ExpressionStoreSourceMap → PatId → Option Source
pat_field_source m id = entry (λ p. p.pat_field_map_back) m.exprs (id_key id)

-- the source, or the error that the node has none
abbrev pub or_synthetic : Option Source → Result Source SyntheticSyntax
or_synthetic None = Err (record {})
or_synthetic (Some source) = Ok source

abbrev pub patterns_in : Option ExprSources → BindingId → List PatId
patterns_in None binding = []
patterns_in (Some part) binding = patterns_of part.definitions binding

-- the patterns that define a binding, in the order in which they were added
abbrev pub patterns_for : ExpressionStoreSourceMap → BindingId → List PatId
patterns_for m binding = patterns_in m.exprs binding

abbrev pub expansions_in : Option ExprSources → map.FinMap by_code MacroCallId
expansions_in None = map.empty
expansions_in (Some part) = part.expansions

-- all expansions
abbrev pub expansions_of : ExpressionStoreSourceMap → map.FinMap by_code MacroCallId
expansions_of m = expansions_in m.exprs

abbrev pub diagnostics_in : Option ExprSources → List ExpressionStoreDiagnostics
diagnostics_in None = []
diagnostics_in (Some part) = part.diagnostics

-- all diagnostics, in the order in which they were pushed
abbrev pub diagnostics_of : ExpressionStoreSourceMap → List ExpressionStoreDiagnostics
diagnostics_of m = diagnostics_in m.exprs
