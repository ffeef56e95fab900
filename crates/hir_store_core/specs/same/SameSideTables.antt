-- Proof that `==` of side tables decides whether they are the same.
use Rattle.std.specs.Prelude.{◌≡◌}
use Rattle.std.specs.Bool.{Decides}
use Rattle.std.specs.Cmp.Lexicographic.{nat_list_cmp_total, pointwise_decides}
use Rattle.hir_collections.specs.Exact.{exact}
use Rattle.hir_collections.specs.Maps.{same_maps_decides}
use Rattle.hir_collections.specs.Table.{by_code-IsAntisymmetric}
use Rattle.hir_path.specs.same.Fields.{and_decides, both}
use Rattle.hir_store_core.specs.declared.side_tables.SideTables.{SideTables}
use Rattle.hir_store_core.specs.contracts.side_tables.SideTablesPartialEq.TheImpl as side_tables

pub side_tables_decide : (x y : SideTables) → Decides (side_tables.ghosts.eq x y) (x ≡ y)
side_tables_decide x y =
    and_decides _ _ (same_maps_decides nat_list_cmp_total _ by_code-IsAntisymmetric
    (search exact) x.owners y.owners)
    (both _ _ (same_maps_decides nat_list_cmp_total _ by_code-IsAntisymmetric
    (search exact) x.hygiene y.hygiene) (pointwise_decides (search exact) x.blocks y.blocks))
    (λ o r i. record { owners = o i; hygiene = r.0 i; blocks = r.1 i })
    (λ e i. (e i).owners)
    (λ e. (λ i. (e i).hygiene, λ i. (e i).blocks))
