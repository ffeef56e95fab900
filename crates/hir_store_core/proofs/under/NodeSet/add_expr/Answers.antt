use Rattle.hir_node.specs.declared.node_id.NodeId.TheVariants as node
use Rattle.hir_store_core.proofs.UnderLemmas.{gains}
use Rattle.hir_store_core.proofs.under.NodeSet.add_expr.Goals as goal

pub returns : goal.returns
returns c =
    rw (← c.self.view_is)
    (gains record { sizes = c.self.inside.sizes; marks = c.self.inside.marks.items } (node.Expr c.args.id) c.into_raw.result c.into_raw.ensures (rw (← c.self.view_is) at c.requires) c.self.invariant)
