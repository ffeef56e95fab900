use Rattle.std.proofs.Common.{◌≡◌, rules, arith}
use Rattle.hir_scope.specs.internal.{Begins.signature_begins, WalkState.state}
use Rattle.hir_scope.proofs.BuiltLemmas.{signature_starts, signature_fails, signature_made}
use Rattle.hir_scope.proofs.expr_scopes.ExprScopes.new_store.Goals as goal
use Rattle.std.proofs.lemmas.Grind.{common_steps}

pub run-requires : goal.run-requires
run-requires c =
    let is : state c.loop-root.walk ≡ signature_begins c.args.store.now = grind (arith, common_steps) in
    record { ready = signature_starts c.args.store.now c.is_sound_store.ensures (state c.loop-root.walk) is }

pub returns-in_err-run-clause-full : goal.returns-in_err-run-clause-full
returns-in_err-run-clause-full c =
    let is : state c.loop-root.walk ≡ signature_begins c.args.store.now = grind (arith, common_steps) in
    search (rules, signature_fails, is)

pub returns-clause-scopes : goal.returns-clause-scopes
returns-clause-scopes c =
    let is : state c.loop-root.walk ≡ signature_begins c.args.store.now = grind (arith, common_steps) in
    grind (arith, common_steps, signature_made, c.is_sound_store.ensures, c.in_ok-run.ensures.gone, is)
