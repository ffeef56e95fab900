use Rattle.std.proofs.Common.{◌≡◌, ap, sym, ◌∙◌}
use Rattle.std.specs.FinMap as map
use Rattle.hir_source_map.specs.Sources.{id_key}
use Rattle.hir_store_core.specs.declared.side_tables.SideTables.{SideTables}
use Rattle.hir_store_core.proofs.store.ExpressionStore.binding_owner.Goals as goal

pub returns-in_err-get : goal.returns-in_err-get
returns-in_err-get c =
    let empty_value : map.empty ≡ c.side_tables.result.now.owners = rw c.in_err-get.was at c.get.ensures in
    let owners = empty_value ∙ ap (λ (t : SideTables). t.owners) c.side_tables.ensures in
    c.from_residual.ensures ∙ sym (map.get-empty _ (id_key c.args.id)) ∙ ap (λ m. map.get m (id_key c.args.id)) owners
