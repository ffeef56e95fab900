-- The scoping form of a node: which nodes give their children contexts by a rule of their own. Any other node
-- visits its children in turn.
use Rattle.hir_scope.specs.Prelude.{List, [], Option, Some, None, slice_get, BlockId, ExprId, PatId, LabelId, TypeRefId, Call, expr_calls, pat_calls, type_calls, Expr, MatchArm, Statement, NodeId, Pat, TypeRef, Nodes}
use Rattle.hir_scope.specs.declared.form.Form.{Form}

pub data ScopingForm : Type 0 where
  -- the condition, then, else
  If : ExprId → ExprId → Option ExprId → ScopingForm
  -- `let` in a condition: the pattern, the expression
  Let : PatId → ExprId → ScopingForm
  -- the block's id, its label, its statements, its tail
  Block : Option BlockId → Option LabelId → List Statement → Option ExprId → ScopingForm
  -- the label, the body
  Loop : Option LabelId → ExprId → ScopingForm
  -- the types of the arguments, the return type, the arguments, the body
  Closure : List (Option TypeRefId) → Option TypeRefId → List PatId → ExprId → ScopingForm
  -- the scrutinee, the arms
  Match : ExprId → List MatchArm → ScopingForm
  -- the target, the value
  Assignment : PatId → ExprId → ScopingForm
  -- a type with a pattern: the type, the pattern
  PatternType : TypeRefId → PatId → ScopingForm
  -- any other node, by its child calls
  InTurn : List Call → ScopingForm

abbrev pub expr_form : Expr → ScopingForm
expr_form (Expr.If condition then_branch else_branch) = If condition then_branch else_branch
expr_form (Expr.Let pat expr) = Let pat expr
expr_form (Expr.Block id statements tail label unsafe_) = Block id label statements tail
expr_form (Expr.Loop body label source) = Loop label body
expr_form (Expr.Closure args arg_types ret_type body closure_kind capture_by) =
    Closure arg_types ret_type args body
expr_form (Expr.Match scrutinee arms) = Match scrutinee arms
expr_form (Expr.Assignment target value) = Assignment target value
expr_form x = InTurn (expr_calls x)

abbrev pub pat_form : Pat → ScopingForm
pat_form x = InTurn (pat_calls x)

abbrev pub type_form : TypeRef → ScopingForm
type_form (TypeRef.PatternType id pat) = PatternType id pat
type_form x = InTurn (type_calls x)

-- what a value of `Form` is modelled as
abbrev pub form_model : Form → ScopingForm
form_model (Form.If condition then_branch else_branch) = If condition then_branch else_branch
form_model (Form.Let pat expr) = Let pat expr
form_model (Form.Block id label statements tail) = Block id label statements.now tail
form_model (Form.Loop label body) = Loop label body
form_model (Form.Closure arg_types ret_type args body) = Closure arg_types.now ret_type args.now body
form_model (Form.Match scrutinee arms) = Match scrutinee arms.now
form_model (Form.Assignment target value) = Assignment target value
form_model (Form.PatternType id pat) = PatternType id pat
form_model Form.Leaf = InTurn []
form_model (Form.Expr expr) = InTurn (expr_calls expr.now)
form_model (Form.Pat pat) = InTurn (pat_calls pat.now)
form_model (Form.TypeRef type) = InTurn (type_calls type.now)

-- the form of a node, where it exists
abbrev pub form_at : {X : Type 0} → (X → ScopingForm) → Option X → ScopingForm
form_at form None = InTurn []
form_at form (Some x) = form x

abbrev pub form_of : Nodes → NodeId → ScopingForm
form_of s (NodeId.Expr id) = form_at expr_form (slice_get s.exprs id)
form_of s (NodeId.Pat id) = form_at pat_form (slice_get s.pats id)
form_of s (NodeId.TypeRef id) = form_at type_form (slice_get s.types id)
