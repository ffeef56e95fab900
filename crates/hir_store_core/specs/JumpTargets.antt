-- What encloses an expression, and where a jump goes: the nearest ancestor of a kind, never beyond an
-- anonymous constant.
use Rattle.hir_store_core.specs.Prelude.{Bool, true, false, List, [], Option, Some, None, find, filter_map, slice_get, list_any, ExprId, LabelId, Expr, NodeId, Call, OnExpr, OnAnonConst, OnPat, OnType, OnLifetime, Nodes, calls_of}
use Rattle.std.specs.Prelude.{◌==◌, ◌||◌, ◌∷◌, if◌then◌else◌}
use Rattle.hir_node.specs.declared.expr.Expr.TheVariants as expr
use Rattle.hir_node.specs.declared.node_id.NodeId.TheVariants as node
use Rattle.hir_store_core.specs.declared.jump_roles.JumpRole.{JumpRole}
use Rattle.hir_store_core.specs.declared.jump_roles.JumpRole.TheVariants.{Closure, Loop, Block, Break, Continue, Other}
use Rattle.hir_store_core.specs.Ancestors.{ancestors}

-- 1. The code that an expression is in

-- the call is made with this expression as an anonymous constant
abbrev pub is_const_call : ExprId → Call → Bool
is_const_call id (OnAnonConst const) = const == id
is_const_call id (OnExpr expr) = false
is_const_call id (OnPat pat) = false
is_const_call id (OnType type) = false
is_const_call id (OnLifetime lifetime) = false

-- the expression is an anonymous constant among the calls
abbrev pub has_const : List Call → ExprId → Bool
has_const calls id = list_any (is_const_call id) calls

-- n is an anonymous constant of p, or a type, in which all code is constant. It is said of the edge: the node
-- of a constant is an expression like others
abbrev pub is_const_of : Nodes → NodeId → NodeId → Bool
is_const_of s p (node.Expr id) = has_const (calls_of s p) id
is_const_of s p (node.Pat id) = false
is_const_of s p (node.TypeRef id) = true

-- of a node's ancestors those up to the nearest constant that the node is in
abbrev pub up_to_const : Nodes → NodeId → List NodeId → List NodeId
up_to_const s n [] = []
up_to_const s n (p ∷ more) = if is_const_of s p n then [] else (p ∷ up_to_const s p more)

abbrev pub expr_of : NodeId → Option ExprId
expr_of (node.Expr id) = Some id
expr_of (node.Pat id) = None
expr_of (node.TypeRef id) = None

-- the expressions around an expression, innermost first, up to the nearest constant that it is in
abbrev pub exprs_around : Nodes → ExprId → List ExprId
exprs_around s e = filter_map expr_of (up_to_const s (node.Expr e) (ancestors s (node.Expr e)))

-- 2. What an expression is to a jump in it

abbrev pub role_of : Expr → JumpRole
role_of (expr.Closure args arg_types ret_type body kind capture) = Closure
role_of (expr.Loop body label source) = Loop label
role_of (expr.Block id statements tail label unsafe_) = Block label
role_of (expr.Break value label) = Break label
role_of (expr.Continue label) = Continue label
role_of x = Other

abbrev pub role_in : Option Expr → JumpRole
role_in None = Other
role_in (Some x) = role_of x

abbrev pub role_at : Nodes → ExprId → JumpRole
role_at s e = role_in (slice_get s.exprs e)

-- a closure of any kind: a coroutine, as an async block, is one
abbrev pub is_closure : JumpRole → Bool
is_closure Closure = true
is_closure role = false

abbrev pub is_loop : JumpRole → Bool
is_loop (Loop label) = true
is_loop role = false

abbrev pub is_label : LabelId → Option LabelId → Bool
is_label label None = false
is_label label (Some found) = found == label

-- a loop or a block with this label
abbrev pub has_label : LabelId → JumpRole → Bool
has_label label (Loop found) = is_label label found
has_label label (Block found) = is_label label found
has_label label role = false

-- 3. What encloses an expression, and where it jumps

-- the nearest expression around that passes the test
abbrev pub nearest : Nodes → (JumpRole → Bool) → ExprId → Option ExprId
nearest s test e = find (λ id. test (role_at s id)) (exprs_around s e)

-- the expression that was found, where it passes the test
abbrev pub if_passes : Nodes → (JumpRole → Bool) → Option ExprId → Option ExprId
if_passes s test None = None
if_passes s test (Some id) = if test (role_at s id) then Some id else None

-- the nearest expression around that passes the test, where it is nearer than any closure
abbrev pub nearest_in_closure : Nodes → (JumpRole → Bool) → ExprId → Option ExprId
nearest_in_closure s test e = if_passes s test (nearest s (λ role. test role || is_closure role) e)

-- the closure in whose code an expression is
unfoldable pub enclosing_closure : Nodes → ExprId → Option ExprId
enclosing_closure s e = nearest s is_closure e

-- the loop in whose body an expression is, in one closure with it
unfoldable pub enclosing_loop : Nodes → ExprId → Option ExprId
enclosing_loop s e = nearest_in_closure s is_loop e

-- what a jump from an expression leaves: the nearest loop, or by its label the nearest loop or block that has
-- it
abbrev pub left_by : Nodes → ExprId → Option LabelId → Option ExprId
left_by s e None = nearest_in_closure s is_loop e
left_by s e (Some label) = nearest_in_closure s (has_label label) e

-- `continue` goes to a loop alone, and what isn't a jump nowhere
abbrev pub target_by_role : Nodes → ExprId → JumpRole → Option ExprId
target_by_role s e (Break label) = left_by s e label
target_by_role s e (Continue label) = if_passes s is_loop (left_by s e label)
target_by_role s e role = None

-- the loop or the block that a `break` leaves, and the loop that a `continue` continues
unfoldable pub jump_target : Nodes → ExprId → Option ExprId
jump_target s e = target_by_role s e (role_at s e)
