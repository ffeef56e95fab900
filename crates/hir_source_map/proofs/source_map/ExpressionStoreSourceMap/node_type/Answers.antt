use Rattle.std.proofs.Common.{◌≡◌, ap, sym, ◌∙◌}
use Rattle.std.specs.FinMap as map
use Rattle.hir_source_map.specs.Sources.{no_type_sources, source_key}
use Rattle.hir_source_map.proofs.source_map.ExpressionStoreSourceMap.node_type.Goals as goal

pub returns-in_err-get : goal.returns-in_err-get
returns-in_err-get c =
    let empty_value : no_type_sources ≡ c.args.self.now.types = rw c.in_err-get.was at c.get.ensures in
    c.from_residual.ensures ∙ sym (map.get-empty _ (source_key c.args.node)) ∙ ap (λ t. map.get t.type_map (source_key c.args.node)) empty_value
