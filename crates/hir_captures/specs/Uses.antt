-- The uses of variables in a closure's code: the paths of one name in it and in no constant, in the order in
-- which they are visited.
use Rattle.std.specs.Prelude.{◌∷◌}
use Rattle.hir_captures.specs.Prelude.{flat_map, List, [], Option, Some, None, slice_get, Name, SyntaxContext, ExprId, Expr, NodeId, Pat, fold_down, Nodes, Contents, hygiene_of, local_name, Base, Scope, ConstScope, ChildContext, child_contexts}
use Rattle.hir_path.specs.declared.ids.ExprOrPatId.TheVariants as either

-- 1. The code of a closure

-- a node of the code, and the assignment in whose target it is, where it is a pattern in one
pub record Spot : Type 0 where
  pub node : NodeId
  pub assignment : Option ExprId

-- the assignment in whose target the patterns of an expression are: the expression itself, where it is one
abbrev pub if_assignment : ExprId → Option Expr → Option ExprId
if_assignment id (Some (Expr.Assignment target value)) = Some id
if_assignment id found = None

-- the assignment in whose target a node's patterns are: the node itself, or that in whose target it is
abbrev pub assignment_at : Nodes → NodeId → Option ExprId → Option ExprId
assignment_at s (NodeId.Expr id) assignment = if_assignment id (slice_get s.exprs id)
assignment_at s (NodeId.Pat id) assignment = assignment
assignment_at s (NodeId.TypeRef id) assignment = None

-- the assignment in whose target a node is: only patterns are in targets, an expression in one begins anew
abbrev pub of_pattern : NodeId → Option ExprId → Option ExprId
of_pattern (NodeId.Pat id) assignment = assignment
of_pattern (NodeId.Expr id) assignment = None
of_pattern (NodeId.TypeRef id) assignment = None

abbrev pub spot : NodeId → Option ExprId → Spot
spot n assignment = record { node = n; assignment = assignment }

-- the code of the closure: what is among the constants isn't in it
abbrev pub in_code : Base → List Spot → List Spot
in_code Scope spots = spots
in_code ConstScope spots = []

-- the code under a child, by its context
abbrev pub child_code : (NodeId → Option ExprId → List Spot) → Option ExprId → ChildContext → List Spot
child_code self assignment child_context = in_code child_context.base
    (self child_context.child (of_pattern child_context.child assignment))

-- a node, and then the code under its children, in the order in which scopes are made
abbrev pub code_step : Nodes → (NodeId → Option ExprId → List Spot) → NodeId → Option ExprId → List Spot
code_step s self n assignment =
    spot n assignment ∷ flat_map (child_code self (assignment_at s n assignment)) (child_contexts s n)

-- the code under a node, preorder
-- code_under s n a = code_step s (code_under s) n a: theorem code_under_unfold
unfoldable pub code_under : Nodes → NodeId → Option ExprId → List Spot
code_under s n assignment = fold_down s (code_step s) (λ assignment. []) n assignment

-- 2. What is used in it

-- a use: the name and the hygiene that it asks for, and the expression in whose chain they are looked up
pub record Use : Type 0 where
  pub name : Name
  pub hygiene : SyntaxContext
  pub expr : ExprId

abbrev pub use_of : SyntaxContext → ExprId → Option Name → List Use
use_of hygiene expr None = []
use_of hygiene expr (Some name) = record { name = name; hygiene = hygiene; expr = expr } ∷ []

-- the uses of an expression: a path is looked up in its own chain
abbrev pub expr_uses : SyntaxContext → ExprId → Option Expr → List Use
expr_uses hygiene id (Some (Expr.Path path)) = use_of hygiene id (local_name path)
expr_uses hygiene id found = []

-- the uses of a pattern: a path in the target of an assignment is looked up in the chain of the assignment
abbrev pub pat_uses : SyntaxContext → Option ExprId → Option Pat → List Use
pat_uses hygiene (Some assignment) (Some (Pat.Path path)) = use_of hygiene assignment (local_name path)
pat_uses hygiene assignment found = []

abbrev pub uses_at : Contents → NodeId → Option ExprId → List Use
uses_at c (NodeId.Expr id) assignment =
    expr_uses (hygiene_of c.side_tables (either.ExprId id)) id (slice_get c.nodes.exprs id)
uses_at c (NodeId.Pat id) assignment =
    pat_uses (hygiene_of c.side_tables (either.PatId id)) assignment (slice_get c.nodes.pats id)
uses_at c (NodeId.TypeRef id) assignment = []

abbrev pub spot_uses : Contents → Spot → List Use
spot_uses c spot = uses_at c spot.node spot.assignment

-- the uses in a closure
unfoldable pub uses_in : Contents → ExprId → List Use
uses_in c closure = flat_map (spot_uses c) (code_under c.nodes (NodeId.Expr closure) None)
