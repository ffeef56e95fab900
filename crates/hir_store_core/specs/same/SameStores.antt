-- What `==` of stores tests, part by part, and the proof that it decides whether they are the same.
use Rattle.std.specs.Prelude.{◌≡◌, Bool, ◌&&◌}
use Rattle.std.specs.Bool.{Decides}
use Rattle.std.specs.Cmp.{IsEquivalence, IsPartialEquivalence, decided, partial_equiv_from_equiv}
use Rattle.std.specs.Cmp.Lexicographic.{pointwise}
use Rattle.hir_path.specs.same.Fields.{and_decides, both}
use Rattle.hir_forest.specs.contracts.roots.RootPartialEq.TheImpl as root
use Rattle.hir_validate.specs.contracts.node_arenas.NodesPartialEq.TheImpl as arenas
use Rattle.hir_validate.specs.same.SameNodes.{nodes_decide}
use Rattle.hir_store_core.specs.Contents.{Contents}
use Rattle.hir_store_core.specs.same.SameRoots.{root_lists_decide}
use Rattle.hir_store_core.specs.same.SameSideTables.{side_tables_decide}
use Rattle.hir_store_core.specs.contracts.side_tables.SideTablesPartialEq.TheImpl as side_tables

-- all parts are the same, but the parents, which the nodes give
abbrev pub same_stores : Contents → Contents → Bool
same_stores x y =
    arenas.ghosts.eq x.nodes y.nodes
    && (pointwise root.ghosts.eq x.roots y.roots && side_tables.ghosts.eq x.side_tables y.side_tables)

pub stores_decide : (x y : Contents) → Decides (same_stores x y) (x ≡ y)
stores_decide x y =
    and_decides _ _ (nodes_decide x.nodes y.nodes)
    (both _ _ (root_lists_decide x.roots y.roots) (side_tables_decide x.side_tables y.side_tables))
    (λ n r i. record { nodes = n i; roots = r.0 i; side_tables = r.1 i })
    (λ e i. (e i).nodes)
    (λ e. (λ i. (e i).roots, λ i. (e i).side_tables))

-- `==` of stores is an equivalence
pub stores_equiv : IsEquivalence same_stores
stores_equiv = decided same_stores stores_decide

pub stores_per : IsPartialEquivalence same_stores
stores_per = partial_equiv_from_equiv stores_equiv
