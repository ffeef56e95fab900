use Rattle.std.proofs.Common.{ap, arith}
use Rattle.std.specs.List.{flat_map}
use Rattle.hir_node.specs.ChildCalls
use Rattle.hir_node.specs.ChildCalls.{opt, bound_calls, arg_calls, args_calls, binding_calls}
use Rattle.hir_node.specs.Runs.{no_call}
use Rattle.hir_path.specs.declared.path.GenericArgs.{out-GenericArgs}
use Rattle.hir_path.specs.declared.path.AssociatedTypeBinding.{out-AssociatedTypeBinding}
use Rattle.hir_node.proofs.ArgsCalls.{args_calls_is, binding_calls_is}
use Rattle.hir_node.proofs.ArgsSizes.{bindings_smaller, binding_smaller, opt_size, args_smaller}
use Rattle.hir_node.proofs.RunLemmas.{may_item, going_item, going_over, may_first, may_after, runs_append}
use Rattle.hir_node.proofs.visitor.+visit_generic_args.Goals as goal

pub visit_args_opt-visit_generic_args-requires : goal.visit_args_opt-visit_generic_args-requires
visit_args_opt-visit_generic_args-requires g t c κs within =
    let smaller = ap opt_size c.in-Some.is in
    (omega arith, (within, rw c.in-Some.is at c.requires))

pub visit_args_opt-returns-in-Some : goal.visit_args_opt-returns-in-Some
visit_args_opt-returns-in-Some g t c = rw c.in-Some.is c.visit_generic_args.ensures

pub visit_args_opt-returns-in_default : goal.visit_args_opt-returns-in_default
visit_args_opt-returns-in_default g t c = rw c.in_default.is no_call

pub visit_binding-visit_args_opt-requires : goal.visit_binding-visit_args_opt-requires
visit_binding-visit_args_opt-requires g t c κs within =
    let b = out-AssociatedTypeBinding c.args.binding.now in
    let smaller = args_smaller c.args.binding.now in
    let all = rw (binding_calls_is c.args.binding.now) at c.requires in
    (omega arith, (within, may_first _ (opt ChildCalls.t b.type_ref) (may_first _ (flat_map bound_calls b.bounds) all)))

pub visit_binding-on_type_opt-requires : goal.visit_binding-on_type_opt-requires
visit_binding-on_type_opt-requires g t c =
    let b = out-AssociatedTypeBinding c.args.binding.now in
    let all = rw (binding_calls_is c.args.binding.now) at c.requires in
    may_after (may_first _ (flat_map bound_calls b.bounds) all) c.visit_args_opt.ensures

pub visit_binding-on_type_bounds-requires : goal.visit_binding-on_type_bounds-requires
visit_binding-on_type_bounds-requires g t c =
    let all = rw (binding_calls_is c.args.binding.now) at c.requires in
    rw c.as_slice.ensures (may_after all (runs_append c.visit_args_opt.ensures c.on_type_opt.ensures))

pub visit_binding-returns : goal.visit_binding-returns
visit_binding-returns g t c =
    rw (binding_calls_is c.args.binding.now)
    (runs_append (runs_append c.visit_args_opt.ensures c.on_type_opt.ensures) (rw c.as_slice.ensures at c.on_type_bounds.ensures))

pub visit_bindings-visit_binding-requires : goal.visit_bindings-visit_binding-requires
visit_bindings-visit_binding-requires g t c κs within =
    let l = c.loop-binding in
    let x = c.binding-item.result in
    let smaller = rw (← c.binding-item.is) at (binding_smaller c.args.bindings.now l.binding-index x c.loop-binding-test.true) in
    (omega arith, (within, may_item binding_calls c.args.bindings.now l.binding-index x c.loop-binding-test.true c.binding-item.is l.invariant))

pub visit_bindings-loop-binding-preserved : goal.visit_bindings-loop-binding-preserved
visit_bindings-loop-binding-preserved g t c =
    going_item binding_calls c.args.bindings.now c.loop-binding.binding-index c.binding-item.result c.loop-binding-test.true c.binding-item.is c.loop-binding.invariant c.visit_binding.ensures

pub visit_bindings-returns : goal.visit_bindings-returns
visit_bindings-returns g t c = going_over binding_calls c.args.bindings.now c.loop-binding.binding-index c.loop-binding-test.false c.loop-binding.invariant

pub visit_generic_args-visit_each-requires : goal.visit_generic_args-visit_each-requires
visit_generic_args-visit_each-requires g t c =
    rw c.as_slice.ensures (may_first _ (flat_map binding_calls (out-GenericArgs c.args.args.now).bindings) (rw (args_calls_is c.args.args.now) at c.requires))

pub visit_generic_args-visit_bindings-requires : goal.visit_generic_args-visit_bindings-requires
visit_generic_args-visit_bindings-requires g t c κs within =
    let smaller = bindings_smaller c.args.args.now in
    let args = rw c.as_slice.ensures at c.visit_each.ensures in
    (rw c.as_slice-bindings.ensures (omega arith), (within, rw c.as_slice-bindings.ensures (may_after (rw (args_calls_is c.args.args.now) at c.requires) args)))

pub visit_generic_args-returns : goal.visit_generic_args-returns
visit_generic_args-returns g t c =
    rw (args_calls_is c.args.args.now)
    (runs_append (rw c.as_slice.ensures at c.visit_each.ensures) (rw c.as_slice-bindings.ensures at c.visit_bindings.ensures))
