use Rattle.hir_pretty_docs.proofs.Common.{refl, opt, binding_docs, adds, adds_none, adds_more, left_begins, left_goes_on, left_ends}
use Rattle.hir_pretty_nodes.specs.Prelude.{Adds}
use Rattle.hir_pretty.specs.Bodies.{formal_self}
use Rattle.hir_pretty.proofs.ListLemmas.{formals_begin, formals_step, formals_end}
use Rattle.hir_pretty.proofs.bodies.add_params.Goals as goal
use Rattle.hir_pretty.proofs.bodies.add_params.Goals.{in-Some, in_default}

pub loop-param-init : goal.loop-param-init
loop-param-init c =
    let self : Adds c.add.new.self.stack (λ s. opt (binding_docs s) (formal_self c.args.self_param.now)) c.match-self_param.tokens.stack = elim c.match-self_param.branch [
      | in-Some w ↦ rw (w.tokens-is, w.in-Some.is) w.add_binding.ensures
      | in_default w ↦ rw (w.tokens-is, w.in_default.is) (adds_none (λ s. refl))
    ] in
    left_goes_on (left_goes_on (left_begins (λ s. refl)) (adds c.add.ensures (λ s. refl)) (λ s. refl)) self
    (λ s. formals_begin s c.args.self_param.now c.is_some-after.result c.args.params.now c.is_some-after.ensures)

pub loop-param-preserved : goal.loop-param-preserved
loop-param-preserved c = left_goes_on c.loop-param.invariant (adds_more c.add_if.ensures c.add-in-loop-param.ensures)
    (λ s. formals_step c.loop-param.after c.args.params.now c.loop-param.param-index c.param-item.result c.loop-param-test.true c.param-item.is)

pub returns-after-loop-param : goal.returns-after-loop-param
returns-after-loop-param c = rw c.in-FunctionId.is (adds_more
    (left_ends c.loop-param.invariant (λ s. formals_end c.loop-param.after c.args.params.now c.loop-param.param-index c.loop-param-test.false)) c.add-in-FunctionId.ensures)
