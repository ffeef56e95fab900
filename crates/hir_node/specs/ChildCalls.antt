-- Defines the child calls of a node: what a visitor is called with, and in which order. There is one clause
-- a variant. An absent part gives no call. The children of a node are those of its child calls. The other ids
-- that a node names are in `OtherIds`.
--
-- The running example of all definitions is the body of
--     fn f(x) { let y = |z| x + z; if let Some(x) = y(1) { x } else { x } }
-- Its expressions are, by id: 0 `x`, 1 `z`, 2 `x + z`, 3 the closure, 4 `y`, 5 `1`, 6 `y(1)`, 7 `let Some(x) = y(1)`,
-- 8 `x`, 9 its block, 10 `x`, 11 its block, 12 the `if`, 13 the block of the body. Its patterns are 0 `x`, 1 `y`,
-- 2 `z`, 3 the inner `x`, 4 `Some(x)`, and its bindings those of patterns 0 to 3. The child calls are
--     of 12: OnExpr 7, OnExpr 9, OnExpr 11            of 7: OnPat 4, OnExpr 6
--     of 3: OnExpr 2, OnPat 2                         of 13: OnExpr 3, OnPat 1, OnExpr 12
use Rattle.std.specs.Prelude.{List, [], ◌∷◌, ◌++◌, Option, Some, None}
use Rattle.std.specs.List.{flat_map}
use Rattle.hir_path.specs.NodeIds.{ExprId, PatId, TypeRefId, LifetimeRefId}
use Rattle.hir_path.specs.declared.bound.TypeBound.{TypeBound}
use Rattle.hir_path.specs.declared.bound.TypeBound.TheVariants as bound
use Rattle.hir_path.specs.declared.bound.UseArgRef.{UseArgRef}
use Rattle.hir_path.specs.declared.bound.UseArgRef.TheVariants as use_arg
use Rattle.hir_node.specs.declared.type_ref.TypeRef.{TypeRef}
use Rattle.hir_node.specs.declared.type_ref.TypeRef.TheVariants as type
use Rattle.hir_path.specs.declared.path.GenericArg.{GenericArg}
use Rattle.hir_path.specs.declared.path.GenericArg.TheVariants as arg
use Rattle.hir_path.specs.declared.path.GenericArgs.{GenericArgs, GenericArgs-F, fold-GenericArgs}
use Rattle.hir_path.specs.declared.path.AssociatedTypeBinding.{AssociatedTypeBinding, AssociatedTypeBinding-F, fold-AssociatedTypeBinding}
use Rattle.hir_path.specs.declared.path.NormalPath.{NormalPath}
use Rattle.hir_path.specs.declared.path.Path.{Path}
use Rattle.hir_path.specs.declared.path.Path.TheVariants as path
use Rattle.hir_node.specs.declared.pat.Pat.{Pat}
use Rattle.hir_node.specs.declared.pat.Pat.TheVariants as pat
use Rattle.hir_node.specs.declared.expr_types.RecordSpread.{RecordSpread}
use Rattle.hir_node.specs.declared.expr_types.RecordSpread.TheVariants as spread
use Rattle.hir_node.specs.declared.expr_types.Array.{Array}
use Rattle.hir_node.specs.declared.expr_types.Array.TheVariants as array
use Rattle.hir_node.specs.declared.expr_types.MatchArm.{MatchArm}
use Rattle.hir_node.specs.declared.expr_types.Statement.{Statement}
use Rattle.hir_node.specs.declared.expr_types.Statement.TheVariants as statement
use Rattle.hir_node.specs.declared.expr.Expr.{Expr}
use Rattle.hir_node.specs.declared.expr.Expr.TheVariants as expr
use Rattle.hir_node.specs.declared.node_id.NodeId.{NodeId}
use Rattle.hir_node.specs.declared.node_id.NodeId.TheVariants as node

-- a call of a visitor, with an expression, an anonymous constant (an expression that sees no local
-- variables), a pattern, a type or a lifetime
pub data Call : Type 0 where
  OnExpr : ExprId → Call
  OnAnonConst : ExprId → Call
  OnPat : PatId → Call
  OnType : TypeRefId → Call
  OnLifetime : LifetimeRefId → Call

-- the list of one call, of each kind
abbrev pub e : ExprId → List Call
e id = OnExpr id ∷ []

abbrev pub a : ExprId → List Call
a id = OnAnonConst id ∷ []

abbrev pub p : PatId → List Call
p id = OnPat id ∷ []

abbrev pub t : TypeRefId → List Call
t id = OnType id ∷ []

abbrev pub l : LifetimeRefId → List Call
l id = OnLifetime id ∷ []

-- the calls of a part that may be absent
abbrev pub opt : {X : Type 0} → (X → List Call) → Option X → List Call
opt calls None = []
opt calls (Some x) = calls x

-- the calls of what a bound `use<..>` lists: one for each lifetime
abbrev pub use_calls : UseArgRef → List Call
use_calls (use_arg.Name name) = []
use_calls (use_arg.Lifetime id) = l id

-- the calls of a bound
abbrev pub bound_calls : TypeBound → List Call
bound_calls (bound.Path id modifier) = t id
bound_calls (bound.ForLifetime names id) = t id
bound_calls (bound.Lifetime id) = l id
bound_calls (bound.Use args) = flat_map use_calls args
bound_calls bound.Error = []

-- the calls of one generic argument
abbrev pub arg_calls : GenericArg → List Call
arg_calls (arg.Ty id) = t id
arg_calls (arg.Lifetime id) = l id
arg_calls (arg.Const constant) = a constant.expr

-- one layer of an associated type binding, with calls in place of its own arguments: these calls, its type,
-- its bounds
abbrev pub binding_layer : AssociatedTypeBinding-F (List Call) (List Call) → List Call
binding_layer b = opt (λ calls. calls) b.args ++ opt t b.type_ref ++ flat_map bound_calls b.bounds

-- one layer of generic arguments, with calls in place of each binding: each argument, then the calls of each
-- binding
abbrev pub args_layer : GenericArgs-F (List Call) (List Call) → List Call
args_layer x = flat_map arg_calls x.args ++ flat_map (λ calls. calls) x.bindings

-- the calls of generic arguments: each argument; then for each binding its own generic arguments, its type,
-- its bounds
abbrev pub args_calls : GenericArgs → List Call
args_calls = fold-GenericArgs (List Call) (List Call) binding_layer args_layer

-- the calls of an associated type binding: its own generic arguments, its type, its bounds
abbrev pub binding_calls : AssociatedTypeBinding → List Call
binding_calls = fold-AssociatedTypeBinding (List Call) (List Call) binding_layer args_layer

-- the calls of a normal path: the generic arguments of each segment, then the anchor
abbrev pub normal_path_calls : NormalPath → List Call
normal_path_calls n = flat_map (opt args_calls) n.generic_args ++ opt t n.type_anchor

-- the calls of a path
abbrev pub path_calls : Path → List Call
path_calls (path.BarePath mod_path) = []
path_calls (path.Normal normal) = normal_path_calls normal
path_calls (path.LangItem target name) = []

-- the calls of what comes after the fields of a record literal
abbrev pub spread_calls : RecordSpread → List Call
spread_calls spread.None = []
spread_calls spread.FieldDefaults = []
spread_calls (spread.Expr id) = e id

abbrev pub array_calls : Array → List Call
array_calls (array.ElementList elements) = flat_map e elements
array_calls (array.Repeat initializer repeat) = e initializer ++ a repeat

-- the calls of a match arm: the body, the guard, the pattern
abbrev pub arm_calls : MatchArm → List Call
arm_calls arm = e arm.expr ++ opt e arm.guard ++ p arm.pat

-- the calls of a statement; of a `let` the initializer, the else branch, the pattern, the type
abbrev pub statement_calls : Statement → List Call
statement_calls (statement.Let pat type_ref initializer else_branch) =
    opt e initializer ++ opt e else_branch ++ p pat ++ opt t type_ref
statement_calls (statement.Expr expr has_semi) = e expr
statement_calls (statement.Item item) = []

abbrev pub expr_calls : Expr → List Call
expr_calls (expr.If condition then_branch else_branch) = e condition ++ e then_branch ++ opt e else_branch
expr_calls (expr.Let pat expr) = p pat ++ e expr
expr_calls (expr.Block id statements tail label unsafe_) = flat_map statement_calls statements ++ opt e tail
expr_calls (expr.Loop body label source) = e body
expr_calls (expr.Call callee args) = e callee ++ flat_map e args
expr_calls (expr.MethodCall receiver method_name args generic_args) =
    e receiver ++ flat_map e args ++ opt args_calls generic_args
expr_calls (expr.Match expr arms) = e expr ++ flat_map arm_calls arms
expr_calls (expr.Break expr label) = opt e expr
expr_calls (expr.Return expr) = opt e expr
expr_calls (expr.Yield expr) = opt e expr
expr_calls (expr.Yeet expr) = opt e expr
expr_calls (expr.Become expr) = e expr
expr_calls (expr.Field expr name) = e expr
expr_calls (expr.Await expr) = e expr
expr_calls (expr.Ref expr rawness mutability) = e expr
expr_calls (expr.UnaryOp expr op) = e expr
expr_calls (expr.Cast expr type_ref) = e expr ++ t type_ref
expr_calls (expr.RecordLit path fields spread) =
    flat_map (λ field. e field.expr) fields ++ spread_calls spread ++ path_calls path
expr_calls (expr.Closure args arg_types ret_type body closure_kind capture_by) =
    e body ++ flat_map p args ++ flat_map (opt t) arg_types ++ opt t ret_type
expr_calls (expr.BinaryOp lhs rhs op) = e lhs ++ e rhs
expr_calls (expr.Index base index) = e base ++ e index
expr_calls (expr.Assignment target value) = p target ++ e value
expr_calls (expr.Const id) = a id
expr_calls (expr.Array array) = array_calls array
expr_calls (expr.Tuple exprs) = flat_map e exprs
expr_calls (expr.OffsetOf offset) = t offset.container
expr_calls (expr.Path path) = path_calls path
expr_calls expr.Missing = []
expr_calls (expr.Literal literal) = []
expr_calls expr.Underscore = []
expr_calls (expr.Continue label) = []
expr_calls expr.IncludeBytes = []

abbrev pub pat_calls : Pat → List Call
pat_calls (pat.Range start end range_type) = opt e start ++ opt e end
pat_calls (pat.Lit id) = e id
pat_calls (pat.Expr id) = e id
pat_calls (pat.Bind id subpat) = opt p subpat
pat_calls (pat.Or args) = flat_map p args
pat_calls (pat.Tuple args ellipsis) = flat_map p args
pat_calls (pat.TupleStruct path args ellipsis) = flat_map p args ++ path_calls path
pat_calls (pat.Record ellipsis path args) = flat_map (λ field. p field.pat) args ++ path_calls path
pat_calls (pat.Slice prefix slice suffix) = flat_map p prefix ++ opt p slice ++ flat_map p suffix
pat_calls (pat.Ref pat mutability) = p pat
pat_calls (pat.Box inner) = p inner
pat_calls (pat.Deref inner) = p inner
pat_calls (pat.Path path) = path_calls path
pat_calls pat.Wild = []
pat_calls pat.Missing = []
pat_calls pat.Rest = []
pat_calls pat.NotNull = []

abbrev pub type_calls : TypeRef → List Call
type_calls (type.Tuple types) = flat_map t types
type_calls (type.RawPtr id mutability) = t id
type_calls (type.Slice id) = t id
type_calls (type.Reference reference) = t reference.ty ++ opt l reference.lifetime
type_calls (type.Array array) = t array.ty ++ a array.len.expr
type_calls (type.Fn function) = flat_map (λ entry. t entry.1) function.params
type_calls (type.ImplTrait bounds) = flat_map bound_calls bounds
type_calls (type.DynTrait bounds) = flat_map bound_calls bounds
type_calls (type.PatternType id pat) = t id ++ p pat
type_calls (type.Path path) = path_calls path
type_calls type.Never = []
type_calls type.Placeholder = []
type_calls (type.TypeParam param) = []
type_calls type.Error = []

-- the node that a call is made with, if it is one
abbrev pub child : Call → List NodeId
child (OnExpr id) = node.Expr id ∷ []
child (OnAnonConst id) = node.Expr id ∷ []
child (OnPat id) = node.Pat id ∷ []
child (OnType id) = node.TypeRef id ∷ []
child (OnLifetime id) = []

-- the children among calls: the expressions, the anonymous constants, the patterns and the types
abbrev pub children : List Call → List NodeId
children calls = flat_map child calls

-- the pattern that a call is made with, if it is one
abbrev pub pat_of_call : Call → List PatId
pat_of_call (OnPat id) = id ∷ []
pat_of_call (OnExpr id) = []
pat_of_call (OnAnonConst id) = []
pat_of_call (OnType id) = []
pat_of_call (OnLifetime id) = []

-- the patterns among the child calls of a pattern
abbrev pub child_pats : Pat → List PatId
child_pats x = flat_map pat_of_call (pat_calls x)
