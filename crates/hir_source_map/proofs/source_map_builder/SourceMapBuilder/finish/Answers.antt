use Rattle.std.proofs.Common.{◌≡◌, Bool, Option, None, Some, sym, ap, ◌∙◌}
use Rattle.std.specs.Prelude.{◌||◌, cond}
use Rattle.hir_source_map.specs.declared.sources.ExprSources.{ExprSources}
use Rattle.hir_source_map.specs.declared.sources.TypeSources.{TypeSources}
use Rattle.hir_source_map.specs.declared.source_map.ExpressionStoreSourceMap.{ExpressionStoreSourceMap}
use Rattle.hir_source_map.specs.Sources.{has_news}
use Rattle.hir_source_map.proofs.source_map_builder.SourceMapBuilder.finish.Goals as goal
use Rattle.hir_source_map.proofs.source_map_builder.SourceMapBuilder.finish.Goals.{then-keeps_nodes, else-keeps_nodes, then-has_news, else-has_news}

abbrev map_of_parts : Option ExprSources → TypeSources → ExpressionStoreSourceMap
map_of_parts exprs types = record { exprs = exprs; types = types }

pub returns : goal.returns
returns c =
    let part = c.args.self.exprs in
    let keeps : c.if-keeps_nodes.value ≡ (c.args.keeps_nodes || has_news part) = elim c.if-keeps_nodes.branch [
      | then-keeps_nodes w ↦ w.value-is ∙ (w.if-keeps_nodes.true ∙ sym (ap (λ (kept : Bool). kept || has_news part) w.if-keeps_nodes.true))
      | else-keeps_nodes w ↦ w.value-is ∙ (w.has_news.ensures ∙ sym (ap (λ (kept : Bool). kept || has_news part) w.if-keeps_nodes.false))
    ] in
    let kept : c.if-has_news.exprs ≡ cond (c.args.keeps_nodes || has_news part) (Some part) None = elim c.if-has_news.branch [
      | then-has_news w ↦ w.exprs-is ∙ sym (ap (λ (b : Bool). cond b (Some part) None) (sym keeps ∙ w.if-has_news.true))
      | else-has_news w ↦ w.exprs-is ∙ sym (ap (λ (b : Bool). cond b (Some part) None) (sym keeps ∙ w.if-has_news.false))
    ] in
    ap (λ (exprs : Option ExprSources). map_of_parts exprs c.args.self.types) kept
