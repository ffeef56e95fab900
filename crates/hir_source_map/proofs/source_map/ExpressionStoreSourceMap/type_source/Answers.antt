use Rattle.std.proofs.Common.{◌≡◌, ap, sym, ◌∙◌}
use Rattle.std.specs.FinMap as map
use Rattle.hir_source_map.specs.Sources.{no_type_sources, id_key}
use Rattle.hir_source_map.proofs.source_map.ExpressionStoreSourceMap.type_source.Goals as goal

pub returns-in_err-get : goal.returns-in_err-get
returns-in_err-get c =
    let empty_value : no_type_sources ≡ c.args.self.now.types = rw c.in_err-get.was at c.get.ensures in
    c.from_residual.ensures ∙ sym (map.get-empty _ (id_key c.args.type_ref)) ∙ ap (λ t. map.get t.type_map_back (id_key c.args.type_ref)) empty_value
