use Rattle.std.proofs.Common.{◌+◌, ap}
use Rattle.hir_node.specs.declared.node_id.NodeId.TheVariants as node
use Rattle.hir_store_core.proofs.UnderLemmas.{gains}
use Rattle.hir_store_core.proofs.under.NodeSet.add_pat.Goals as goal

pub returns : goal.returns
returns c =
    rw (← c.self.view_is)
    (gains record { sizes = c.self.inside.sizes; marks = c.self.inside.marks.items } (node.Pat c.args.id) (c.self.inside.sizes.exprs + c.into_raw.result) (ap (λ k. c.self.inside.sizes.exprs + k) c.into_raw.ensures) (rw (← c.self.view_is) at c.requires) c.self.invariant)
