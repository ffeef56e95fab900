use Rattle.hir_node.specs.declared.node_id.NodeId.TheVariants as node
use Rattle.hir_store_core.proofs.KeptLemmas.{no_node}
use Rattle.hir_store_core.proofs.store.ExpressionStore.walk_turns.Goals as goal

pub returns-in-None : goal.returns-in-None
returns-in-None g c = absurd (no_node c.args.self.now.nodes (c.kept_parts.ensures.none c.in-None.is) (node.Pat c.args.top) c.requires.in_range)
