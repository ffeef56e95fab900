use Rattle.std.proofs.Common.{◌≡◌, ap, sym, ◌∙◌}
use Rattle.std.specs.FinMap as map
use Rattle.hir_path.specs.Keys.{expr_or_pat_code}
use Rattle.hir_store_core.specs.declared.side_tables.SideTables.{SideTables}
use Rattle.hir_store_core.specs.SideTables.{or_root}
use Rattle.hir_store_core.proofs.store.ExpressionStore.expr_or_pat_path_hygiene.Goals as goal

pub returns-in_default : goal.returns-in_default
returns-in_default c =
    let empty_value : map.empty ≡ c.side_tables.result.now.hygiene = rw c.in_default.is at c.get.ensures in
    let table = empty_value ∙ ap (λ (t : SideTables). t.hygiene) c.side_tables.ensures in
    ap or_root (sym (map.get-empty _ (expr_or_pat_code c.args.id)) ∙ ap (λ m. map.get m (expr_or_pat_code c.args.id)) table)
