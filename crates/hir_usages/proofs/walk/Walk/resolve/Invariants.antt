use Rattle.std.proofs.Common.{◌≡◌}
use Rattle.std.specs.FinMap as map
use Rattle.hir_scope.specs.Scopes.{ScopeIsInRange}
use Rattle.hir_usages.proofs.RenameLemmas.{found_in, ways}
use Rattle.hir_usages.proofs.walk.Walk.resolve.Given as goal

abbrev pub invariant-loop-current : goal.invariant-loop-current
invariant-loop-current l =
    let scopes = l.self.scopes.now in
    let found = found_in scopes.scopes l.name l.hygiene in
    ScopeIsInRange scopes.scopes l.current × (found l.current ≡ found (map.get scopes.scope_by_expr l.fn.at))

abbrev pub decreases-loop-current : goal.decreases-loop-current
decreases-loop-current l = ways l.current
