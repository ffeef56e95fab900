-- What the words after `expr` say.
use Rattle.std.specs.Prelude.{◌∷◌}
use Rattle.hir_show_grammar.specs.Prelude.{ℕ, List, [], map, Option, None, Some, codes, PatId, TypeRefId, Expr, Missing, Path, Const, If, Block, Loop, Call, Match, Assignment, Tuple, Int, ElementList, Repeat, Closure, Shared}
use Rattle.hir_node.specs.declared.expr.Expr.TheVariants.{Literal as LiteralExpr, Array as ArrayExpr, Let, Ref as RefExpr, BinaryOp as BinaryExpr, Closure as ClosureExpr}
use Rattle.hir_node.specs.declared.expr_types.CaptureBy.TheVariants.{Ref as ByRef}
use Rattle.hir_node.specs.declared.expr_types.LoopSource.TheVariants.{Loop as PlainLoop}
use Rattle.hir_node.specs.declared.expr_types.Unsafe.TheVariants.{No as Safe}
use Rattle.hir_node.specs.declared.type_ref.Rawness.TheVariants.{Ref as Reference}
use Rattle.hir_show_grammar.specs.Readings.{Reading, ◌>>=◌, gives, each}
use Rattle.hir_show_grammar.specs.Words.{number, optional, list, path, int, op, one_of}
use Rattle.hir_show_grammar.specs.ArmsAndStatements.{arm_of, statement_of}

abbrev pub path_expr : Reading Expr
path_expr = do
  of ← path
  gives (Path of)

abbrev pub int_expr : Reading Expr
int_expr = do
  n ← int
  gives (LiteralExpr (Int n None))

abbrev pub call_expr : Reading Expr
call_expr = do
  callee ← number
  args ← list
  gives (Call callee args)

abbrev pub tuple_expr : Reading Expr
tuple_expr = do
  exprs ← list
  gives (Tuple exprs)

abbrev pub array_expr : Reading Expr
array_expr = do
  elements ← list
  gives (ArrayExpr (ElementList elements))

abbrev pub repeat_expr : Reading Expr
repeat_expr = do
  initializer ← number
  count ← number
  gives (ArrayExpr (Repeat initializer count))

abbrev pub ref_expr : Reading Expr
ref_expr = do
  expr ← number
  gives (RefExpr expr Reference Shared)

abbrev pub bin_expr : Reading Expr
bin_expr = do
  operator ← op
  lhs ← number
  rhs ← number
  gives (BinaryExpr lhs rhs (Some operator))

abbrev pub let_expr : Reading Expr
let_expr = do
  pat ← number
  expr ← number
  gives (Let pat expr)

abbrev pub if_expr : Reading Expr
if_expr = do
  condition ← number
  then_branch ← number
  else_branch ← optional
  gives (If condition then_branch else_branch)

abbrev pub loop_expr : Reading Expr
loop_expr = do
  body ← number
  gives (Loop body None PlainLoop)

abbrev pub assign_expr : Reading Expr
assign_expr = do
  target ← number
  value ← number
  gives (Assignment target value)

abbrev pub const_expr : Reading Expr
const_expr = do
  body ← number
  gives (Const body)

abbrev pub match_expr : Reading Expr
match_expr = do
  expr ← number
  arms ← each arm_of
  gives (Match expr arms)

-- no type for each argument
abbrev pub no_types : List PatId → List (Option TypeRefId)
no_types args = map (λ _. None) args

abbrev pub closure_expr : Reading Expr
closure_expr = do
  body ← number
  args ← list
  gives (ClosureExpr args (no_types args) None body Closure ByRef)

abbrev pub block_expr : Reading Expr
block_expr = do
  id ← optional
  tail ← optional
  statements ← each statement_of
  gives (Block id statements tail None Safe)

abbrev pub expr_forms : List (List ℕ × Reading Expr)
expr_forms =
    (codes "missing", gives Missing)
    ∷ (codes "path", path_expr)
    ∷ (codes "int", int_expr)
    ∷ (codes "call", call_expr)
    ∷ (codes "tuple", tuple_expr)
    ∷ (codes "array", array_expr)
    ∷ (codes "repeat", repeat_expr)
    ∷ (codes "ref", ref_expr)
    ∷ (codes "bin", bin_expr)
    ∷ (codes "let", let_expr)
    ∷ (codes "if", if_expr)
    ∷ (codes "loop", loop_expr)
    ∷ (codes "assign", assign_expr)
    ∷ (codes "const", const_expr)
    ∷ (codes "match", match_expr)
    ∷ (codes "closure", closure_expr)
    ∷ (codes "block", block_expr)
    ∷ []

-- the words after `expr`
unfoldable pub expr : Reading Expr
expr words = one_of expr_forms words
