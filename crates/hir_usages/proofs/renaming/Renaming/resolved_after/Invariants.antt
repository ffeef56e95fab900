use Rattle.std.proofs.Common.{◌≡◌}
use Rattle.std.specs.FinMap as map
use Rattle.hir_scope.specs.Scopes.{ScopeIsInRange}
use Rattle.hir_usages.proofs.RenameLemmas.{found_from, ways}
use Rattle.hir_usages.proofs.renaming.Renaming.resolved_after.Given as goal

abbrev pub invariant-loop-current : goal.invariant-loop-current
invariant-loop-current l =
    let scopes = l.self.scopes.now in
    let from = found_from scopes.scopes l.self.binding l.self.name.now l.name l.hygiene in
    ScopeIsInRange scopes.scopes l.current × (from l.current ≡ from (map.get scopes.scope_by_expr l.usage.expr))

abbrev pub decreases-loop-current : goal.decreases-loop-current
decreases-loop-current l = ways l.current
