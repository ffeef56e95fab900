-- Where a node's anonymous constants are: whether an expression is one of them, without a look at lists that
-- have none.
use Rattle.std.specs.Prelude.{◌==◌}
use Rattle.hir_store_core.specs.Prelude.{Bool, false, Some, ExprId, Expr, Pat, TypeRef, args_calls, path_calls}
use Rattle.hir_node.specs.declared.expr_types.Array.TheVariants as array
use Rattle.hir_node.specs.declared.expr.Expr.TheVariants as expr
use Rattle.hir_node.specs.declared.pat.Pat.TheVariants as pat
use Rattle.hir_node.specs.declared.type_ref.TypeRef.TheVariants as type
use Rattle.hir_store_core.specs.JumpTargets.{has_const}

abbrev pub expr_has_const : Expr → ExprId → Bool
expr_has_const (expr.Const const) id = const == id
expr_has_const (expr.Array (array.Repeat initializer repeat)) id = repeat == id
expr_has_const (expr.Path path) id = has_const (path_calls path) id
expr_has_const (expr.RecordLit path fields spread) id = has_const (path_calls path) id
expr_has_const (expr.MethodCall receiver method_name args (Some generic_args)) id =
    has_const (args_calls generic_args) id
expr_has_const x id = false

abbrev pub pat_has_const : Pat → ExprId → Bool
pat_has_const (pat.Path path) id = has_const (path_calls path) id
pat_has_const (pat.Record ellipsis path args) id = has_const (path_calls path) id
pat_has_const (pat.TupleStruct path args ellipsis) id = has_const (path_calls path) id
pat_has_const x id = false

abbrev pub type_has_const : TypeRef → ExprId → Bool
type_has_const (type.Array array) id = array.len.expr == id
type_has_const (type.Path path) id = has_const (path_calls path) id
type_has_const x id = false
