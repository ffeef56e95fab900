-- The words after `expr`, for each expression that a line makes.
use Rattle.std.specs.Prelude.{◌∷◌}
use Rattle.hir_show_grammar.specs.Prelude.{ℕ, ℤ, List, [], map, Option, None, Some, codes, BinaryOp, BlockId, ExprId, PatId, Expr, Missing, Path, Const, If, Block, Loop, Call, Match, Assignment, Tuple, Int, MatchArm, Statement, ElementList, Repeat, Closure, Shared}
use Rattle.hir_node.specs.declared.expr.Expr.TheVariants.{Literal as LiteralExpr, Array as ArrayExpr, Let, Ref as RefExpr, BinaryOp as BinaryExpr, Closure as ClosureExpr}
use Rattle.hir_node.specs.declared.expr_types.CaptureBy.TheVariants.{Ref as ByRef}
use Rattle.hir_node.specs.declared.expr_types.LoopSource.TheVariants.{Loop as PlainLoop}
use Rattle.hir_node.specs.declared.expr_types.Unsafe.TheVariants.{No as Safe}
use Rattle.hir_node.specs.declared.type_ref.Rawness.TheVariants.{Ref as Reference}
use Rattle.hir_show_grammar.specs.Words.{plain}
use Rattle.hir_show_grammar.specs.Exprs.{no_types}
use Rattle.hir_show_grammar.specs.Tokens.{Token, Word, Name, Number, Optional, Numbers, Integer, Operator, Arm, Stmt}

pub data IsExpr : Expr → List Token → Type 0 where
  missing : IsExpr Missing (Word (codes "missing") ∷ [])
  path : {name : List ℕ} → IsExpr (Path (plain name)) (Word (codes "path") ∷ Name name ∷ [])
  int : {n : ℤ} → IsExpr (LiteralExpr (Int n None)) (Word (codes "int") ∷ Integer n ∷ [])
  call : {callee : ExprId} {args : List ExprId} →
      IsExpr (Call callee args) (Word (codes "call") ∷ Number callee ∷ Numbers args ∷ [])
  tuple : {exprs : List ExprId} → IsExpr (Tuple exprs) (Word (codes "tuple") ∷ Numbers exprs ∷ [])
  array : {elements : List ExprId} →
      IsExpr (ArrayExpr (ElementList elements)) (Word (codes "array") ∷ Numbers elements ∷ [])
  repeat : {initializer count : ExprId} →
      IsExpr (ArrayExpr (Repeat initializer count))
      (Word (codes "repeat") ∷ Number initializer ∷ Number count ∷ [])
  reference : {expr : ExprId} → IsExpr (RefExpr expr Reference Shared) (Word (codes "ref") ∷ Number expr ∷ [])
  binary : {op : BinaryOp} {lhs rhs : ExprId} →
      IsExpr (BinaryExpr lhs rhs (Some op)) (Word (codes "bin") ∷ Operator op ∷ Number lhs ∷ Number rhs ∷ [])
  let_expr : {pat : PatId} {expr : ExprId} → IsExpr (Let pat expr)
      (Word (codes "let") ∷ Number pat ∷ Number expr ∷ [])
  if_expr : {condition then_branch : ExprId} {else_branch : Option ExprId} →
      IsExpr (If condition then_branch else_branch)
      (Word (codes "if") ∷ Number condition ∷ Number then_branch ∷ Optional else_branch ∷ [])
  loop_expr : {body : ExprId} → IsExpr (Loop body None PlainLoop) (Word (codes "loop") ∷ Number body ∷ [])
  assign : {target : PatId} {value : ExprId} →
      IsExpr (Assignment target value) (Word (codes "assign") ∷ Number target ∷ Number value ∷ [])
  constant : {body : ExprId} → IsExpr (Const body) (Word (codes "const") ∷ Number body ∷ [])
  match_expr : {expr : ExprId} {arms : List MatchArm} →
      IsExpr (Match expr arms) (Word (codes "match") ∷ Number expr ∷ map Arm arms)
  closure : {body : ExprId} {args : List PatId} →
      IsExpr (ClosureExpr args (no_types args) None body Closure ByRef)
      (Word (codes "closure") ∷ Number body ∷ Numbers args ∷ [])
  block : {id : Option BlockId} {tail : Option ExprId} {statements : List Statement} →
      IsExpr (Block id statements tail None Safe)
      (Word (codes "block") ∷ Optional id ∷ Optional tail ∷ map Stmt statements)
