-- What scopes give of a body is what its answers are.
use Rattle.std.proofs.Common.{◌≡◌, ℕ, Option, Some, None, IsSome, refl, sym, subst, option_map, true≢false}
use Rattle.std.specs.FinMap as map
use Rattle.hir_body.specs.Bodies.{BodyContents}
use Rattle.hir_scope.specs.BodyScopes.{AreBodyScopes}
use Rattle.hir_scope.specs.Paths.{chain}
use Rattle.hir_scope.specs.Scopes.{Scopes}
use Rattle.hir_show_run.specs.Answer.{IsChainOf}
use Rattle.hir_show_run.specs.internal.Answer.{chain_by}

-- the chain of an expression, or it isn't reached
pub chain_is : (b : BodyContents) (s : Scopes) → AreBodyScopes b s → (expr : ℕ) → IsChainOf b expr (chain_by s expr)
chain_is b s are expr = by (map.get s.scope_by_expr expr) refl
  where
    by : (found : Option ℕ) → map.get s.scope_by_expr expr ≡ found → IsChainOf b expr (option_map (λ scope. chain s.scopes (Some scope)) found)
    by None e = λ reached. absurd (true≢false (sym (subst (λ (o : Option ℕ). IsSome o) e ((are.reached expr).1 reached))))
    by (Some scope) e = ((are.reached expr).0 (subst (λ (o : Option ℕ). IsSome o) (sym e) refl), are.chains expr scope e)
