use Rattle.hir_scope.proofs.ResolveLemmas.{OnTheWay, ways}
use Rattle.hir_scope.proofs.expr_scopes.ExprScopes.find_name_in_scope.Given as goal

abbrev pub invariant-loop-current : goal.invariant-loop-current
invariant-loop-current l = OnTheWay l.self.scopes l.fn.scope l.name l.hygiene l.current

abbrev pub decreases-loop-current : goal.decreases-loop-current
decreases-loop-current l = ways l.current
