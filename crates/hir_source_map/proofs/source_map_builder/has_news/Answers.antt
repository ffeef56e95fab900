use Rattle.std.proofs.Common.{◌≡◌, ap, sym, ◌∙◌}
use Rattle.hir_source_map.specs.Sources.{no_expr_sources, has_news}
use Rattle.hir_source_map.proofs.NoSources.{no_news}
use Rattle.hir_source_map.proofs.source_map_builder.has_news.Goals as goal

pub returns-in-None : goal.returns-in-None
returns-in-None c =
    let empty_value : no_expr_sources ≡ c.args.exprs.now = rw c.in-None.is at c.get.ensures in
    sym no_news ∙ ap has_news empty_value
