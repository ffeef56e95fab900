-- Beside Answer.antt: what only contracts within this crate cite.
use Rattle.hir_show_run.specs.Prelude.{ℕ, List, Option, Some, option_map, ExprId, Question, Chain, Scopes}
use Rattle.std.specs.FinMap as map
use Rattle.hir_scope.specs.Paths as path
use Rattle.hir_show_run.specs.Answer.{IsAnswer, NamedBody}

-- the chain of an expression by the scopes that were made, if it has one
abbrev pub chain_by : Scopes → ExprId → Option Chain
chain_by s expr = option_map (λ scope. path.chain s.scopes (Some scope)) (map.get s.scope_by_expr expr)

abbrev pub IsAnswerOf : NamedBody → Question → List ℕ → Type 0
IsAnswerOf named question text = IsAnswer named.name named.body question text
