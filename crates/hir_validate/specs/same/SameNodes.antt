-- Proof that `==` of the nodes of two stores decides whether they are the same, arena by arena.
use Rattle.std.specs.Prelude.{◌≡◌}
use Rattle.std.specs.Bool.{Decides}
use Rattle.std.specs.Cmp.Lexicographic.{pointwise_decides}
use Rattle.hir_path.specs.same.Fields.{and_decides, both}
use Rattle.hir_node.specs.same.SameExprs.{exprs_decide}
use Rattle.hir_node.specs.same.SamePats.{pats_decide}
use Rattle.hir_node.specs.same.SameTypes.{types_decide}
use Rattle.hir_node.specs.same.SameStructs.{bindings_decide}
use Rattle.hir_node.specs.contracts.binding.LabelExactEq.TheImpl.Laws as labels_law
use Rattle.hir_node.specs.contracts.type_ref.LifetimeRefExactEq.TheImpl.Laws as lifetimes_law
use Rattle.hir_validate.specs.Nodes.{Nodes}
use Rattle.hir_validate.specs.contracts.node_arenas.NodesPartialEq.TheImpl as arenas

pub nodes_decide : (x y : Nodes) → Decides (arenas.ghosts.eq x y) (x ≡ y)
nodes_decide x y =
    and_decides _ _ (pointwise_decides exprs_decide x.exprs y.exprs)
    (both _ _ (pointwise_decides pats_decide x.pats y.pats)
    (both _ _ (pointwise_decides types_decide x.types y.types)
    (both _ _ (pointwise_decides bindings_decide x.bindings y.bindings)
    (both _ _ (pointwise_decides labels_law.lawful.eq_decides x.labels y.labels)
    (pointwise_decides lifetimes_law.lawful.eq_decides x.lifetimes y.lifetimes)))))
    (λ e r i. record {
      exprs = e i;
      pats = r.0 i;
      types = r.1.0 i;
      bindings = r.1.1.0 i;
      labels = r.1.1.1.0 i;
      lifetimes = r.1.1.1.1 i;
    })
    (λ e i. (e i).exprs)
    (λ e. (
      λ i. (e i).pats,
      (
        λ i. (e i).types,
        (λ i. (e i).bindings, (λ i. (e i).labels, λ i. (e i).lifetimes)),
      ),
    ))
