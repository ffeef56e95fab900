-- Defines the ids that a node names other than by child calls: the binding of a pattern, and the label of an
-- expression.
use Rattle.std.specs.Prelude.{List, [], ◌∷◌}
use Rattle.std.specs.Option.{option_to_list}
use Rattle.hir_path.specs.NodeIds.{BindingId, LabelId}
use Rattle.hir_node.specs.declared.pat.Pat.{Pat}
use Rattle.hir_node.specs.declared.pat.Pat.TheVariants as pat
use Rattle.hir_node.specs.declared.expr.Expr.{Expr}
use Rattle.hir_node.specs.declared.expr.Expr.TheVariants as expr

-- the label that a block or a loop has, or that a jump goes to
abbrev pub expr_labels : Expr → List LabelId
expr_labels (expr.Block id statements tail label unsafe_) = option_to_list label
expr_labels (expr.Loop body label source) = option_to_list label
expr_labels (expr.Break expr label) = option_to_list label
expr_labels (expr.Continue label) = option_to_list label
expr_labels (expr.If condition then_branch else_branch) = []
expr_labels (expr.Let pat expr) = []
expr_labels (expr.Call callee args) = []
expr_labels (expr.MethodCall receiver method_name args generic_args) = []
expr_labels (expr.Match expr arms) = []
expr_labels (expr.Return expr) = []
expr_labels (expr.Yield expr) = []
expr_labels (expr.Yeet expr) = []
expr_labels (expr.Become expr) = []
expr_labels (expr.Field expr name) = []
expr_labels (expr.Await expr) = []
expr_labels (expr.Ref expr rawness mutability) = []
expr_labels (expr.UnaryOp expr op) = []
expr_labels (expr.Cast expr type_ref) = []
expr_labels (expr.RecordLit path fields spread) = []
expr_labels (expr.Closure args arg_types ret_type body closure_kind capture_by) = []
expr_labels (expr.BinaryOp lhs rhs op) = []
expr_labels (expr.Index base index) = []
expr_labels (expr.Assignment target value) = []
expr_labels (expr.Const id) = []
expr_labels (expr.Array array) = []
expr_labels (expr.Tuple exprs) = []
expr_labels (expr.OffsetOf offset) = []
expr_labels (expr.Path path) = []
expr_labels expr.Missing = []
expr_labels (expr.Literal literal) = []
expr_labels expr.Underscore = []
expr_labels expr.IncludeBytes = []

-- the binding of a `Bind` pattern
abbrev pub pat_bindings : Pat → List BindingId
pat_bindings (pat.Bind id subpat) = id ∷ []
pat_bindings (pat.Range start end range_type) = []
pat_bindings (pat.Lit id) = []
pat_bindings (pat.Expr id) = []
pat_bindings (pat.Or args) = []
pat_bindings (pat.Tuple args ellipsis) = []
pat_bindings (pat.TupleStruct path args ellipsis) = []
pat_bindings (pat.Record ellipsis path args) = []
pat_bindings (pat.Slice prefix slice suffix) = []
pat_bindings (pat.Ref pat mutability) = []
pat_bindings (pat.Box inner) = []
pat_bindings (pat.Deref inner) = []
pat_bindings (pat.Path path) = []
pat_bindings pat.Wild = []
pat_bindings pat.Missing = []
pat_bindings pat.Rest = []
pat_bindings pat.NotNull = []
