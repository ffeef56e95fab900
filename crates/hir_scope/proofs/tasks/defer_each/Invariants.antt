use Rattle.std.proofs.Common.{drop}
use Rattle.std.specs.List.{flat_map}
use Rattle.hir_node.proofs.RunLemmas.{Going}
use Rattle.hir_scope.specs.internal.Pending.{DefersTask}
use Rattle.hir_scope.proofs.tasks.defer_each.Given as goal

abbrev pub invariant-loop-item : goal.invariant-loop-item
invariant-loop-item g l =
    Going (λ _ _. Unit {0}) DefersTask l.fn.onto.stack (flat_map g.T.Brings.tasks l.items) l.onto.stack
    (flat_map g.T.Brings.tasks (drop l.item-index l.items))
