use Rattle.std.proofs.Common.{◌≡◌, ◌++◌, ℕ, List, length}
use Rattle.hir_forest.specs.Faults.{root_nodes}
use Rattle.hir_scope.specs.internal.Begins.{roots_begin}
use Rattle.hir_scope.specs.internal.WalkState.{state}
use Rattle.hir_scope.proofs.expr_scopes.ExprScopes.new_store.Given as goal

abbrev pub invariant-loop-root : goal.invariant-loop-root
invariant-loop-root l =
    (met : List ℕ) × (root_nodes l.store.roots ≡ l.roots ++ met) × (state l.walk ≡ roots_begin met)

abbrev pub decreases-loop-root : goal.decreases-loop-root
decreases-loop-root l = length l.roots
