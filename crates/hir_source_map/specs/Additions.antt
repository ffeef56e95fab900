-- Defines how each call of a builder of source maps changes it: one map has one entry more, or another value
-- at its key, and nothing else changes.
use Rattle.std.specs.Prelude.{◌≡◌, ◌∷◌, ◌++◌, ◌||◌}
use Rattle.hir_source_map.specs.Prelude.{[], Bool, cond, Some, None, Global, MacroCallId, ExprId, PatId, BindingId, LabelId, TypeRefId, LifetimeRefId, ExprOrPatId}
use Rattle.std.specs.FinMap as map
use Rattle.hir_source_map.specs.declared.diagnostics.ExpressionStoreDiagnostics.{ExpressionStoreDiagnostics}
use Rattle.hir_source_map.specs.declared.source_map_builder.SourceMapBuilder.{SourceMapBuilder}
use Rattle.hir_source_map.specs.declared.source_map.ExpressionStoreSourceMap.{ExpressionStoreSourceMap}
use Rattle.hir_source_map.specs.Sources.{Source, source_key, id_key, no_expr_sources, no_type_sources, and_definition, has_news}

-- the two builders have the same maps
abbrev pub HasSameMaps : SourceMapBuilder → SourceMapBuilder → Type 0
HasSameMaps b c = (b.exprs ≡ c.exprs) × (b.types ≡ c.types)

-- maps without entries
abbrev pub no_sources : Global → SourceMapBuilder
no_sources alloc = record { exprs = no_expr_sources; types = no_type_sources; alloc = alloc }

abbrev pub with_expr : SourceMapBuilder → Source → ExprOrPatId → SourceMapBuilder
with_expr b source expr =
    record b { exprs = record b.exprs { expr_map = map.insert b.exprs.expr_map (source_key source) expr } }

abbrev pub with_expr_back : SourceMapBuilder → ExprId → Source → SourceMapBuilder
with_expr_back b expr source =
    record b {
      exprs = record b.exprs { expr_map_back = map.insert b.exprs.expr_map_back (id_key expr) source };
    }

abbrev pub with_pat : SourceMapBuilder → Source → ExprOrPatId → SourceMapBuilder
with_pat b source pat =
    record b { exprs = record b.exprs { pat_map = map.insert b.exprs.pat_map (source_key source) pat } }

abbrev pub with_pat_back : SourceMapBuilder → PatId → Source → SourceMapBuilder
with_pat_back b pat source =
    record b { exprs = record b.exprs { pat_map_back = map.insert b.exprs.pat_map_back (id_key pat) source } }

abbrev pub with_label : SourceMapBuilder → Source → LabelId → SourceMapBuilder
with_label b source label =
    record b { exprs = record b.exprs { label_map = map.insert b.exprs.label_map (source_key source) label } }

abbrev pub with_label_back : SourceMapBuilder → LabelId → Source → SourceMapBuilder
with_label_back b label source =
    record b {
      exprs = record b.exprs { label_map_back = map.insert b.exprs.label_map_back (id_key label) source };
    }

abbrev pub with_type : SourceMapBuilder → Source → TypeRefId → SourceMapBuilder
with_type b source type_ref =
    record b {
      types = record b.types { type_map = map.insert b.types.type_map (source_key source) type_ref };
    }

abbrev pub with_type_back : SourceMapBuilder → TypeRefId → Source → SourceMapBuilder
with_type_back b type_ref source =
    record b {
      types = record b.types { type_map_back = map.insert b.types.type_map_back (id_key type_ref) source };
    }

abbrev pub with_lifetime : SourceMapBuilder → Source → LifetimeRefId → SourceMapBuilder
with_lifetime b source lifetime =
    record b {
      types = record b.types { lifetime_map = map.insert b.types.lifetime_map (source_key source) lifetime };
    }

abbrev pub with_lifetime_back : SourceMapBuilder → LifetimeRefId → Source → SourceMapBuilder
with_lifetime_back b lifetime source =
    record b {
      types = record b.types {
        lifetime_map_back = map.insert b.types.lifetime_map_back (id_key lifetime) source;
      };
    }

abbrev pub with_field_back : SourceMapBuilder → ExprId → Source → SourceMapBuilder
with_field_back b expr source =
    record b {
      exprs = record b.exprs { field_map_back = map.insert b.exprs.field_map_back (id_key expr) source };
    }

abbrev pub with_pat_field_back : SourceMapBuilder → PatId → Source → SourceMapBuilder
with_pat_field_back b pat source =
    record b {
      exprs = record b.exprs {
        pat_field_map_back = map.insert b.exprs.pat_field_map_back (id_key pat) source;
      };
    }

abbrev pub with_expansion : SourceMapBuilder → Source → MacroCallId → SourceMapBuilder
with_expansion b call expansion =
    record b {
      exprs = record b.exprs { expansions = map.insert b.exprs.expansions (source_key call) expansion };
    }

abbrev pub with_definition : SourceMapBuilder → BindingId → PatId → SourceMapBuilder
with_definition b binding pat =
    record b { exprs = record b.exprs { definitions = and_definition b.exprs.definitions binding pat } }

abbrev pub with_diagnostic : SourceMapBuilder → ExpressionStoreDiagnostics → SourceMapBuilder
with_diagnostic b diagnostic =
    record b { exprs = record b.exprs { diagnostics = b.exprs.diagnostics ++ diagnostic ∷ [] } }

-- the finished maps of a builder, with the expression part exactly if nodes are kept or there is an
-- expansion or a diagnostic
abbrev pub finish_sources : Bool → SourceMapBuilder → ExpressionStoreSourceMap
finish_sources keeps_nodes b =
    record { exprs = cond (keeps_nodes || has_news b.exprs) (Some b.exprs) None; types = b.types }
