use Rattle.hir_node.proofs.RunLemmas.{going_item, going_over}
use Rattle.hir_scope.proofs.tasks.defer_each.Goals as goal
use Rattle.std.proofs.Common.{rules}

pub loop-item-preserved : goal.loop-item-preserved
loop-item-preserved g c = search (rules, going_item)

pub returns : goal.returns
returns g c = going_over g.T.Brings.tasks c.args.items.now c.loop-item.item-index c.loop-item-test.false c.loop-item.invariant
