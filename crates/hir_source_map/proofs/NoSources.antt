-- A source map whose expression part isn't kept, or has no entries, has nothing in it.
use Rattle.std.proofs.Common.{◌≡◌, ℕ, [], refl, ap, ◌∙◌}
use Rattle.std.specs.Prelude.{Option, Some, None, false, unwrap_or}
use Rattle.std.specs.FinMap as map
use Rattle.hir_source_map.specs.declared.sources.ExprSources.{ExprSources}
use Rattle.hir_source_map.specs.declared.source_map.ExpressionStoreSourceMap.{ExpressionStoreSourceMap}
use Rattle.hir_collections.specs.Table.{by_code}
use Rattle.hir_source_map.specs.Sources.{source_key, id_key, no_expr_sources, has_news, list_or_none}
use Rattle.hir_source_map.specs.Lookups.{entry, patterns_in, expansions_in, diagnostics_in}
use Rattle.hir_source_map.specs.internal.NoSources.{HasNoSources}

-- what gives v where there are no entries gives it where the part isn't kept or has none
of_no_entries : {V : Type 0} (f : Option ExprSources → V) (v : V) → f None ≡ v → f (Some no_expr_sources) ≡ v → (m : Option ExprSources) → unwrap_or m no_expr_sources ≡ no_expr_sources → f m ≡ v
of_no_entries f v none some None h = none
of_no_entries f v none some (Some part) h = ap (λ p. f (Some p)) h ∙ some

pub nothing_there : (m : ExpressionStoreSourceMap) → unwrap_or m.exprs no_expr_sources ≡ no_expr_sources → HasNoSources m
nothing_there m h = record {
  no_expr = λ source. of_no_entries (λ p. entry (λ q. q.expr_map) p (source_key source)) None refl (map.get-empty _ _) m.exprs h;
  no_pat = λ source. of_no_entries (λ p. entry (λ q. q.pat_map) p (source_key source)) None refl (map.get-empty _ _) m.exprs h;
  no_label = λ source. of_no_entries (λ p. entry (λ q. q.label_map) p (source_key source)) None refl (map.get-empty _ _) m.exprs h;
  no_expansion = λ source. of_no_entries (λ p. entry (λ q. q.expansions) p (source_key source)) None refl (map.get-empty _ _) m.exprs h;
  no_expr_back = λ id. of_no_entries (λ p. entry (λ q. q.expr_map_back) p (id_key id)) None refl (map.get-empty _ _) m.exprs h;
  no_pat_back = λ id. of_no_entries (λ p. entry (λ q. q.pat_map_back) p (id_key id)) None refl (map.get-empty _ _) m.exprs h;
  no_label_back = λ id. of_no_entries (λ p. entry (λ q. q.label_map_back) p (id_key id)) None refl (map.get-empty _ _) m.exprs h;
  no_field_back = λ id. of_no_entries (λ p. entry (λ q. q.field_map_back) p (id_key id)) None refl (map.get-empty _ _) m.exprs h;
  no_pat_field_back = λ id. of_no_entries (λ p. entry (λ q. q.pat_field_map_back) p (id_key id)) None refl (map.get-empty _ _) m.exprs h;
  no_definition = λ id. of_no_entries (λ p. patterns_in p id) [] refl (ap list_or_none (map.get-empty _ (id_key id))) m.exprs h;
  no_expansions = of_no_entries expansions_in map.empty refl refl m.exprs h;
  no_diagnostics = of_no_entries diagnostics_in [] refl refl m.exprs h;
}

pub no_news : has_news no_expr_sources ≡ false
no_news = rw (map.len-empty by_code ℕ) refl
