use Rattle.hir_node.proofs.RunLemmas.{going_item, going_over, may_item}
use Rattle.hir_scope.proofs.order.visit_each.Goals as goal
use Rattle.std.proofs.Common.{rules}

pub visit-requires : goal.visit-requires
visit-requires g c =
    may_item g.T.Visit.calls c.args.items.now c.loop-item.item-index c.item-item.result c.loop-item-test.true
    c.item-item.is c.loop-item.invariant

pub loop-item-preserved : goal.loop-item-preserved
loop-item-preserved g c = search (rules, going_item)

pub returns : goal.returns
returns g c = going_over g.T.Visit.calls c.args.items.now c.loop-item.item-index c.loop-item-test.false c.loop-item.invariant
