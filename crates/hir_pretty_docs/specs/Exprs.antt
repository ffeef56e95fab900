-- What expressions are printed as.
use Rattle.std.specs.Prelude.{ℕ, Bool, List, [], ◌∷◌, ◌++◌, map, Option, Some, None, codes, slice_get, flat_map}
use Rattle.hir_base.specs.OpTexts.{binary_text, unary_text}
use Rattle.hir_base.specs.declared.operators.BinaryOp.{BinaryOp}
use Rattle.hir_base.specs.declared.prec.ExprPrecedence.TheVariants.{Jump, Assign, Prefix, Postfix, Cast}
use Rattle.hir_path.specs.NodeIds.{ExprId, PatId, LabelId, TypeRefId}
use Rattle.hir_node.specs.{Precedence.of_operator, Keywords.ref_keyword}
use Rattle.hir_node.specs.declared.{type_ref.Rawness.Rawness, expr_types.RecordSpread.RecordSpread, expr_types.Unsafe.Unsafe, expr_types.CoroutineKind.CoroutineKind, expr_types.ClosureKind.ClosureKind, expr_types.Movability.Movability, expr_types.CaptureBy.CaptureBy, expr_types.Array.Array, expr_types.MatchArm.MatchArm, expr_types.RecordLitField.RecordLitField, expr_types.Statement.Statement, expr.Expr.Expr}
use Rattle.hir_node.specs.declared.type_ref.Rawness.TheVariants as rawness
use Rattle.hir_node.specs.declared.expr_types.RecordSpread.TheVariants as spread
use Rattle.hir_node.specs.declared.expr_types.Unsafe.TheVariants as unsafety
use Rattle.hir_node.specs.declared.expr_types.CoroutineKind.TheVariants as coroutine
use Rattle.hir_node.specs.declared.expr_types.ClosureKind.TheVariants as closure
use Rattle.hir_node.specs.declared.expr_types.Movability.TheVariants as movability
use Rattle.hir_node.specs.declared.expr_types.CaptureBy.TheVariants as capture
use Rattle.hir_node.specs.declared.expr_types.Array.TheVariants as array
use Rattle.hir_node.specs.declared.expr_types.Statement.TheVariants as statement
use Rattle.hir_node.specs.declared.expr.Expr.TheVariants as expr
use Rattle.hir_validate.specs.declared.node_arenas.Nodes.{Nodes}
use Rattle.hir_pretty_docs.specs.NameLookups.{PrintEnv}
use Rattle.hir_pretty_docs.specs.Docs.{Doc, text, sp, br, into, out, e, under, p, t, opt, when, join, comma_joined, replacement, with_number}
use Rattle.hir_pretty_docs.specs.Names.{name_docs, label_docs}
use Rattle.hir_pretty_docs.specs.Paths.{path_docs, args_docs, turbofish}
use Rattle.hir_pretty_docs.specs.Literals.{literal_docs}

-- a label before a loop or a block
abbrev pub label_before : PrintEnv → Option LabelId → List Doc
label_before s label = opt (λ id. label_docs s id ++ text (codes ": ")) label

-- a label after `continue` or `break`
abbrev pub to_label : PrintEnv → Option LabelId → List Doc
to_label s label = opt (λ id. text (codes " ") ++ label_docs s id) label

-- an expression after a keyword such as `return`
abbrev pub operand : Option ExprId → List Doc
operand value = opt (λ id. sp ++ under Jump id) value

-- arguments, each on a line of its own
abbrev pub each_line : List ExprId → List Doc
each_line args = flat_map (λ id. e id ++ text (codes ",") ++ br) args

abbrev pub in_lines : List ExprId → List Doc
in_lines [] = []
in_lines (arg ∷ args) = into ++ each_line (arg ∷ args) ++ out

abbrev pub arguments : List ExprId → List Doc
arguments args = text (codes "(") ++ in_lines args ++ text (codes ")")

abbrev pub arm_docs : MatchArm → List Doc
arm_docs arm = p arm.pat ++ opt (λ id. text (codes " if ") ++ e id) arm.guard ++ text (codes " => ")
    ++ e arm.expr ++ text (codes ",") ++ br

abbrev pub field_docs : PrintEnv → RecordLitField → List Doc
field_docs s field = name_docs s field.name ++ text (codes ": ") ++ e field.expr ++ text (codes ",") ++ br

abbrev pub spread_docs : RecordSpread → List Doc
spread_docs spread.None = []
spread_docs spread.FieldDefaults = text (codes "..") ++ br
spread_docs (spread.Expr id) = text (codes "..") ++ e id ++ br

abbrev pub raw_keyword : Rawness → List ℕ
raw_keyword rawness.RawPtr = codes "raw "
raw_keyword rawness.Ref = codes ""

-- an operator, which may be missing
abbrev pub operator_docs : Option BinaryOp → List Doc
operator_docs None = replacement
operator_docs (Some op) = text (binary_text op)

abbrev pub array_docs : Array → List Doc
array_docs (array.ElementList []) = text (codes "[]")
array_docs (array.ElementList (x ∷ xs)) = text (codes "[") ++ into
    ++ flat_map (λ id. e id ++ text (codes ", ")) (x ∷ xs) ++ out ++ br ++ text (codes "]")
array_docs (array.Repeat initializer repeat) = text (codes "[") ++ into ++ e initializer ++ text (codes "; ")
    ++ e repeat ++ out ++ br ++ text (codes "]")

abbrev pub semicolon : Bool → List Doc
semicolon has_semi = when has_semi (text (codes ";"))

abbrev pub statement_docs : Statement → List Doc
statement_docs (statement.Let pat type_ref initializer else_branch) =
    text (codes "let ") ++ p pat ++ opt (λ id. text (codes ": ") ++ t id) type_ref
    ++ opt (λ id. text (codes " = ") ++ e id) initializer
    ++ opt (λ id. text (codes " else ") ++ e id) else_branch ++ text (codes ";") ++ br
statement_docs (statement.Expr expr has_semi) = e expr ++ semicolon has_semi ++ br
statement_docs (statement.Item item) = []

abbrev pub unsafe_docs : Unsafe → List Doc
unsafe_docs unsafety.Yes = text (codes "unsafe ")
unsafe_docs unsafety.No = []

-- what is between the braces of a block
abbrev pub inside_block : List Statement → Option ExprId → List Doc
inside_block [] None = []
inside_block [] (Some tail) = into ++ e tail ++ br ++ out
inside_block (x ∷ xs) tail = into ++ flat_map statement_docs (x ∷ xs) ++ opt e tail ++ br ++ out

abbrev pub coroutine_keyword : CoroutineKind → List ℕ
coroutine_keyword coroutine.Async = codes "async "
coroutine_keyword coroutine.Gen = codes "gen "
coroutine_keyword coroutine.AsyncGen = codes "async gen "

abbrev pub movability_keyword : Movability → List ℕ
movability_keyword movability.Static = codes "static "
movability_keyword movability.Movable = codes ""

abbrev pub closure_head : ClosureKind → List ℕ
closure_head closure.Closure = codes ""
closure_head (closure.OldCoroutine kind) = movability_keyword kind
closure_head (closure.Coroutine kind source) = coroutine_keyword kind
closure_head (closure.CoroutineClosure kind) = coroutine_keyword kind

abbrev pub capture_keyword : CaptureBy → List ℕ
capture_keyword capture.Value = codes "move "
capture_keyword capture.Ref = codes ""

-- the parameters with their types, as many as both lists have
abbrev pub params : List PatId → List (Option TypeRefId) → List (List Doc)
params [] types = []
params (pat ∷ pats) [] = []
params (pat ∷ pats) (type ∷ types) = (p pat ++ opt (λ id. text (codes ": ") ++ t id) type) ∷ params pats types

-- the parameters and the type of the result, which a coroutine doesn't have
abbrev pub header : ClosureKind → List (List Doc) → Option TypeRefId → List Doc
header (closure.Coroutine kind source) params ret = []
header kind params ret = text (codes "|") ++ comma_joined params ++ text (codes "|")
    ++ opt (λ id. text (codes " -> ") ++ t id) ret ++ sp

-- the body of a closure that is a coroutine
abbrev pub of_coroutine : ClosureKind → ExprId → ExprId → ExprId
of_coroutine (closure.Coroutine kind source) self body = body
of_coroutine kind self body = self

-- an expression, or its body where it is a closure that is a coroutine
abbrev pub coroutine_body : Option Expr → ExprId → ExprId
coroutine_body (Some (expr.Closure args arg_types ret_type body kind capture)) self =
    of_coroutine kind self body
coroutine_body found self = self

-- what is printed as the body of a closure: of a coroutine closure the body of its coroutine
abbrev pub printed_body : Nodes → ClosureKind → ExprId → ExprId
printed_body s (closure.CoroutineClosure kind) body = coroutine_body (slice_get s.exprs body) body
printed_body s kind body = body

-- The documents of an expression.
--
-- In the running example (hir_node/specs/ChildCalls.antt) those of 12, the `if`, are the text `if `, the expression 7,
-- the text ` `, the expression 9, the text ` else ` and the expression 11; those of 2, `x + z`, are 0 under the
-- precedence of `+`, a soft space, the text `+`, a soft space, and 1 under the same. A name needs no parentheses
-- there: `x + z`.
abbrev pub expr_docs : PrintEnv → Expr → List Doc
expr_docs s expr.Missing = replacement
expr_docs s expr.Underscore = text (codes "_")
expr_docs s expr.IncludeBytes = text (codes "include_bytes!(_)")
expr_docs s (expr.OffsetOf o) =
    text (codes "builtin#offset_of(") ++ t o.container ++ text (codes ", ")
    ++ join (text (codes ".")) (map (name_docs s) o.fields) ++ text (codes ")")
expr_docs s (expr.If condition then_branch else_branch) =
    text (codes "if ") ++ e condition ++ text (codes " ") ++ e then_branch
    ++ opt (λ id. text (codes " else ") ++ e id) else_branch
expr_docs s (expr.Let pat expr) = text (codes "let ") ++ p pat ++ text (codes " = ") ++ under Prefix expr
expr_docs s (expr.Loop body label source) = label_before s label ++ text (codes "loop ") ++ e body
expr_docs s (expr.Call callee args) = under Postfix callee ++ arguments args
expr_docs s (expr.MethodCall receiver method_name args generic_args) =
    under Postfix receiver ++ text (codes ".") ++ name_docs s method_name
    ++ opt (λ a. turbofish (args_docs s a)) generic_args ++ arguments args
expr_docs s (expr.Match expr arms) = text (codes "match ") ++ e expr ++ text (codes " {") ++ into
    ++ flat_map arm_docs arms ++ out ++ text (codes "}") ++ br
expr_docs s (expr.Continue label) = text (codes "continue") ++ to_label s label
expr_docs s (expr.Break expr label) = text (codes "break") ++ to_label s label ++ operand expr
expr_docs s (expr.Return expr) = text (codes "return") ++ operand expr
expr_docs s (expr.Become expr) = text (codes "become") ++ operand (Some expr)
expr_docs s (expr.Yield expr) = text (codes "yield") ++ operand expr
expr_docs s (expr.Yeet expr) = text (codes "do") ++ sp ++ text (codes "yeet") ++ operand expr
expr_docs s (expr.RecordLit path fields spread) =
    path_docs s path ++ text (codes "{") ++ into ++ flat_map (field_docs s) fields ++ spread_docs spread
    ++ out ++ text (codes "}")
expr_docs s (expr.Field expr name) = under Postfix expr ++ text (codes ".") ++ name_docs s name
expr_docs s (expr.Await expr) = under Postfix expr ++ text (codes ".await")
expr_docs s (expr.Cast expr type_ref) = under Cast expr ++ text (codes " as ") ++ t type_ref
expr_docs s (expr.Ref expr rawness mutability) =
    text (codes "&") ++ text (raw_keyword rawness) ++ text (ref_keyword mutability) ++ under Prefix expr
expr_docs s (expr.UnaryOp expr op) = text (unary_text op) ++ under Prefix expr
expr_docs s (expr.BinaryOp lhs rhs op) = under (of_operator op) lhs ++ sp ++ operator_docs op ++ sp
    ++ under (of_operator op) rhs
expr_docs s (expr.Index base index) = under Postfix base ++ text (codes "[") ++ e index ++ text (codes "]")
expr_docs s (expr.Tuple exprs) = text (codes "(") ++ flat_map (λ id. e id ++ text (codes ", ")) exprs
    ++ text (codes ")")
expr_docs s (expr.Array array) = array_docs array
expr_docs s (expr.Const id) = text (codes "const { /* ") ++ with_number (codes "ExprId") id
    ++ text (codes " */ }")
expr_docs s (expr.Assignment target value) = p target ++ text (codes " = ") ++ under Assign value
expr_docs s (expr.Block id statements tail label unsafe_) =
    sp ++ label_before s label ++ unsafe_docs unsafe_ ++ text (codes "{") ++ inside_block statements tail
    ++ text (codes "}")
expr_docs s (expr.Closure args arg_types ret_type body kind capture) =
    text (closure_head kind) ++ text (capture_keyword capture) ++ header kind (params args arg_types) ret_type
    ++ e (printed_body s.nodes kind body)
expr_docs s (expr.Literal literal) = literal_docs literal
expr_docs s (expr.Path path) = path_docs s path
