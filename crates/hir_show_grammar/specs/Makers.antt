-- What a line may make.
use Rattle.hir_show_grammar.specs.Prelude.{ℕ, List, SyntaxContext, ExprOrPatId, ExprId, PatId, BindingId}
use Rattle.hir_node.specs.declared.binding.Binding.{Binding as ABinding}
use Rattle.hir_node.specs.declared.expr.Expr.{Expr as AnExpr}
use Rattle.hir_node.specs.declared.pat.Pat.{Pat as APat}
use Rattle.hir_node.specs.declared.type_ref.TypeRef.{TypeRef as AType}

pub data Maker : Type 0 where
  -- `bind ..`: the binding
  Binding : ABinding → Maker
  -- `pat ..`: the pattern
  Pat : APat → Maker
  -- `type ..`: the type
  TypeRef : AType → Maker
  -- `expr ..`: the expression
  Expr : AnExpr → Maker
  -- `hygiene E N`, `pat-hygiene P N`: the hygiene of the path that the expression or the pattern is
  Hygiene : ExprOrPatId → SyntaxContext → Maker
  -- `self B`: the self parameter, by its binding
  SelfParam : BindingId → Maker
  -- `param P`: the next parameter, by its pattern
  Param : PatId → Maker
  -- `fn NAME`: the name of the function
  FnName : List ℕ → Maker
  -- `roots`: begins the list of roots, where there is no list yet
  Roots : Maker
  -- `root E`: one more root
  Root : ExprId → Maker
