use Rattle.std.proofs.Common.{◌+◌, drop}
use Rattle.std.specs.List.{flat_map, sum_by}
use Rattle.hir_node.specs.ChildCalls.{binding_calls}
use Rattle.hir_node.proofs.ArgsSizes.{args_size, binding_size, opt_size}
use Rattle.hir_node.proofs.RunLemmas.{Going}
use Rattle.hir_node.proofs.visitor.+visit_generic_args.Given as goal

-- the calls of the bindings that are left are still to come
abbrev pub invariant-visit_bindings-loop-binding : goal.invariant-visit_bindings-loop-binding
invariant-visit_bindings-loop-binding g l =
    Going g.V.StoreVisitor.may g.V.StoreVisitor.step l.fn.visitor (flat_map binding_calls l.fn.bindings) l.visitor (flat_map binding_calls (drop l.binding-index l.bindings))

abbrev pub decreases-visit_generic_args : goal.decreases-visit_generic_args
decreases-visit_generic_args g l = args_size l.args.now

abbrev pub decreases-visit_bindings : goal.decreases-visit_bindings
decreases-visit_bindings g l = sum_by binding_size l.bindings.now + 1

abbrev pub decreases-visit_binding : goal.decreases-visit_binding
decreases-visit_binding g l = binding_size l.binding.now

abbrev pub decreases-visit_args_opt : goal.decreases-visit_args_opt
decreases-visit_args_opt g l = opt_size l.args.now
