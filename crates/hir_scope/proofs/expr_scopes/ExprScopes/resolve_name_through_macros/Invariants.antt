use Rattle.std.proofs.Common.{◌≡◌, Some}
use Rattle.hir_scope.specs.{Macros.expansion_of, Macros.resolve_through, Paths.chain, Scopes.ScopeIsInRange}
use Rattle.hir_scope.proofs.ResolveLemmas.{ways}
use Rattle.hir_scope.proofs.expr_scopes.ExprScopes.resolve_name_through_macros.Given as goal

abbrev pub invariant-loop-current : goal.invariant-loop-current
invariant-loop-current l = record {
  within : ScopeIsInRange l.self.scopes l.current;
  same : resolve_through (expansion_of l.expansions) (chain l.self.scopes l.current) l.name l.hygiene
      ≡ resolve_through (expansion_of l.expansions) (chain l.self.scopes (Some l.fn.scope)) l.name l.fn.hygiene;
}

abbrev pub decreases-loop-current : goal.decreases-loop-current
decreases-loop-current l = ways l.current
