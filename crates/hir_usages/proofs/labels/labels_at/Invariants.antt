use Rattle.std.proofs.Common.{◌≡◌, ◌++◌}
use Rattle.std.specs.FinMap as map
use Rattle.hir_scope.specs.{Paths.chain, Scopes.ScopeIsInRange}
use Rattle.hir_usages.specs.Labels.{labels_along}
use Rattle.hir_usages.proofs.RenameLemmas.{ways}
use Rattle.hir_usages.proofs.labels.labels_at.Given as goal

-- the labels so far, and those along the rest of the chain, are all
abbrev pub invariant-loop-current : goal.invariant-loop-current
invariant-loop-current l =
    ScopeIsInRange l.scopes.scopes l.current
    × (l.found.items ++ labels_along (chain l.scopes.scopes l.current)
    ≡ labels_along (chain l.scopes.scopes (map.get l.scopes.scope_by_expr l.fn.expr)))

abbrev pub decreases-loop-current : goal.decreases-loop-current
decreases-loop-current l = ways l.current
