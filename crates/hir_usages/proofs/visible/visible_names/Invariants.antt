use Rattle.std.proofs.Common.{◌≡◌, Some, fold}
use Rattle.hir_scope.specs.{Paths.chain, Resolution.entries_of, Scopes.ScopeIsInRange}
use Rattle.hir_usages.proofs.RenameLemmas.{ways}
use Rattle.hir_usages.specs.Visible.{visible_in, with_new_name}
use Rattle.hir_usages.proofs.visible.visible_names.Given as goal

abbrev pub invariant-loop-current : goal.invariant-loop-current
invariant-loop-current l =
    ScopeIsInRange l.scopes.scopes l.current
    × (fold with_new_name l.found (entries_of (chain l.scopes.scopes l.current))
    ≡ visible_in (chain l.scopes.scopes (Some l.fn.scope)))

abbrev pub decreases-loop-current : goal.decreases-loop-current
decreases-loop-current l = ways l.current
