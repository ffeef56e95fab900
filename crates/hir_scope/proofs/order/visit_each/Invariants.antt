use Rattle.std.proofs.Common.{drop}
use Rattle.std.specs.List.{flat_map}
use Rattle.hir_node.proofs.RunLemmas.{Going}
use Rattle.hir_scope.proofs.order.visit_each.Given as goal

abbrev pub invariant-loop-item : goal.invariant-loop-item
invariant-loop-item g l =
    Going g.V.StoreVisitor.may g.V.StoreVisitor.step l.fn.visitor (flat_map g.T.Visit.calls l.items) l.visitor
    (flat_map g.T.Visit.calls (drop l.item-index l.items))
