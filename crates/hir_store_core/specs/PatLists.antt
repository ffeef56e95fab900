-- The patterns, bindings and expressions of a pattern, and the child expressions of an expression.
use Rattle.std.specs.Prelude.{◌∷◌}
use Rattle.hir_store_core.specs.Prelude.{List, [], slice_get, flat_map, ExprId, PatId, BindingId, Call, OnExpr, OnAnonConst, OnPat, OnType, OnLifetime, pat_of_call, NodeId, pat_bindings, all_of, Nodes, calls_of, fold_down}
use Rattle.hir_node.specs.declared.node_id.NodeId.TheVariants as node

-- the patterns among the calls of a pattern
abbrev pub child_pats_of : Nodes → PatId → List PatId
child_pats_of s p = flat_map pat_of_call (calls_of s (node.Pat p))

-- a pattern, and then the patterns of each of its child patterns
abbrev pub pats_step : Nodes → (NodeId → List PatId) → NodeId → List PatId
pats_step s self (node.Pat p) = p ∷ flat_map (λ q. self (node.Pat q)) (child_pats_of s p)
pats_step s self (node.Expr e) = []
pats_step s self (node.TypeRef t) = []

-- the patterns of a pattern, preorder
-- pats s p = p ∷ flat_map (pats s) (child_pats_of s p): theorem pats_unfold
unfoldable pub pats : Nodes → PatId → List PatId
pats s p = fold_down s (pats_step s) [] (node.Pat p)

-- the binding of a pattern that binds one
abbrev pub bindings_at : Nodes → PatId → List BindingId
bindings_at s p = all_of pat_bindings (slice_get s.pats p)

-- the bindings of the patterns of a pattern
abbrev pub bindings_in : Nodes → PatId → List BindingId
bindings_in s p = flat_map (bindings_at s) (pats s p)

-- the expressions that a call gives: an expression or an anonymous constant itself, a pattern what `inside`
-- gives, others none
abbrev pub exprs_from : (PatId → List ExprId) → Call → List ExprId
exprs_from inside (OnExpr id) = id ∷ []
exprs_from inside (OnAnonConst id) = id ∷ []
exprs_from inside (OnPat id) = inside id
exprs_from inside (OnType id) = []
exprs_from inside (OnLifetime id) = []

-- the expressions that a call gives, where a pattern gives none
abbrev pub own_exprs : Call → List ExprId
own_exprs call = exprs_from (λ p. []) call

-- the expressions that the calls of a pattern give
abbrev pub exprs_in_step : Nodes → (NodeId → List ExprId) → NodeId → List ExprId
exprs_in_step s self (node.Pat p) = flat_map (exprs_from (λ q. self (node.Pat q))) (calls_of s (node.Pat p))
exprs_in_step s self (node.Expr e) = []
exprs_in_step s self (node.TypeRef t) = []

-- the expressions of a pattern: those visited by descending through patterns
-- exprs_in s p = flat_map (exprs_from (exprs_in s)) (calls_of s (node.Pat p)): theorem exprs_in_unfold
unfoldable pub exprs_in : Nodes → PatId → List ExprId
exprs_in s p = fold_down s (exprs_in_step s) [] (node.Pat p)

-- the child expressions of an expression, where a pattern gives its expressions
abbrev pub child_exprs : Nodes → ExprId → List ExprId
child_exprs s e = flat_map (exprs_from (exprs_in s)) (calls_of s (node.Expr e))

-- the child expressions of an expression, where a pattern gives none
abbrev pub child_exprs_without_pats : Nodes → ExprId → List ExprId
child_exprs_without_pats s e = flat_map own_exprs (calls_of s (node.Expr e))
