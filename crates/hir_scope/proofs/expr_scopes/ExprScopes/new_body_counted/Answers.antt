use Rattle.std.proofs.Common.{rules, ◌+◌, ◌≤◌, [], refl, arith}
use Rattle.hir_body.specs.Bodies.{body_nodes}
use Rattle.hir_scope.specs.BodyScopes.{expr_count}
use Rattle.hir_scope.specs.internal.WalkState.{walk_state, state}
use Rattle.hir_scope.proofs.BuiltLemmas.{body_starts, body_at_most, body_fails, body_made, body_ticks, root_fails}
use Rattle.hir_scope.proofs.expr_scopes.ExprScopes.new_body_counted.Goals as goal

pub returns-in_err-walk-clause-full : goal.returns-in_err-walk-clause-full
returns-in_err-walk-clause-full c = search (rules, root_fails)

pub run-requires : goal.run-requires
run-requires c =
    let walk = c.in_ok-walk in
    record { ready = body_starts c.args.body.now c.is_sound_body.ensures _ c.store.ensures (state walk.walk) walk.ensures.ok }

pub returns-in_err-run-clause-most : goal.returns-in_err-run-clause-most
returns-in_err-run-clause-most c =
    let walk = c.in_ok-walk in
    let all = body_at_most c.args.body.now c.is_sound_body.ensures _ c.store.ensures (state walk.walk) walk.ensures.ok in
    let few = c.in_err-run.ensures.few in
    let most : c.run.new.steps ≤ c.args.steps.now + expr_count (body_nodes c.args.body.now) = omega (arith, few, all) in
    search (rules, most)

pub returns-in_err-run-clause-full : goal.returns-in_err-run-clause-full
returns-in_err-run-clause-full c = search (rules, body_fails)

pub returns-clause-scopes : goal.returns-clause-scopes
returns-clause-scopes c =
    let walk = c.in_ok-walk in
    body_made c.args.body.now c.is_sound_body.ensures _ c.store.ensures (state walk.walk) walk.ensures.ok
    (walk_state c.run.new.self []) _ _ c.in_ok-run.ensures.gone refl

pub returns-clause-once : goal.returns-clause-once
returns-clause-once c = search (rules, body_ticks)
