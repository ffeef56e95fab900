-- Defines when a source map has nothing in its expression part, by each of its lookups.
use Rattle.std.specs.Prelude.{◌≡◌}
use Rattle.hir_source_map.specs.Prelude.{[], None, ExprId, PatId, BindingId, LabelId}
use Rattle.std.specs.FinMap as map
use Rattle.hir_source_map.specs.declared.source_map.ExpressionStoreSourceMap.{ExpressionStoreSourceMap}
use Rattle.hir_source_map.specs.Sources.{Source}
use Rattle.hir_source_map.specs.Lookups.{expr_at, pat_at, label_at, expansion_at, expr_source, pat_source, label_source, field_source, pat_field_source, patterns_for, expansions_of, diagnostics_of}

pub record HasNoSources (m : ExpressionStoreSourceMap) : Type 0 where
  pub no_expr : (source : Source) → expr_at m source ≡ None
  pub no_pat : (source : Source) → pat_at m source ≡ None
  pub no_label : (source : Source) → label_at m source ≡ None
  pub no_expansion : (source : Source) → expansion_at m source ≡ None
  pub no_expr_back : (id : ExprId) → expr_source m id ≡ None
  pub no_pat_back : (id : PatId) → pat_source m id ≡ None
  pub no_label_back : (id : LabelId) → label_source m id ≡ None
  pub no_field_back : (id : ExprId) → field_source m id ≡ None
  pub no_pat_field_back : (id : PatId) → pat_field_source m id ≡ None
  pub no_definition : (id : BindingId) → patterns_for m id ≡ []
  pub no_expansions : expansions_of m ≡ map.empty
  pub no_diagnostics : diagnostics_of m ≡ []
