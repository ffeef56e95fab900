-- Nodes that lines make: each is written as the grammar has it.
use Rattle.std.specs.Prelude.{◌≡◌}
use Rattle.hir_show_run.specs.Prelude.{List, Some, slice_get, ExprId, PatId, TypeRefId, Expr, Pat, TypeRef, Token, IsExpr, IsPat, IsType, Nodes}

-- a line makes this expression
abbrev pub IsExprOfLine : Expr → Type 0
IsExprOfLine x = (tokens : List Token) × IsExpr x tokens

abbrev pub IsPatOfLine : Pat → Type 0
IsPatOfLine x = (tokens : List Token) × IsPat x tokens

abbrev pub IsTypeOfLine : TypeRef → Type 0
IsTypeOfLine x = (tokens : List Token) × IsType x tokens

-- the expressions, patterns and types are each made by a line
pub record AreOfLines (s : Nodes) : Type 0 where
  pub exprs : (id : ExprId) (x : Expr) → slice_get s.exprs id ≡ Some x → IsExprOfLine x
  pub pats : (id : PatId) (x : Pat) → slice_get s.pats id ≡ Some x → IsPatOfLine x
  pub types : (id : TypeRefId) (x : TypeRef) → slice_get s.types id ≡ Some x → IsTypeOfLine x
