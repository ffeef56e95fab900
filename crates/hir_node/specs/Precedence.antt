-- Defines how tightly each expression binds.
use Rattle.std.specs.Prelude.{Option, Some, None}
use Rattle.hir_base.specs.declared.prec.ExprPrecedence.{ExprPrecedence}
use Rattle.hir_base.specs.declared.prec.ExprPrecedence.TheVariants.{Jump, Assign, LOr, LAnd, Compare, BitOr, BitXor, BitAnd, Shift, Sum, Product, Cast, Prefix, Postfix, Unambiguous}
use Rattle.hir_base.specs.declared.operators.ArithOp.{ArithOp}
use Rattle.hir_base.specs.declared.operators.ArithOp.TheVariants as arith
use Rattle.hir_base.specs.declared.operators.LogicOp.TheVariants as logic
use Rattle.hir_base.specs.declared.operators.BinaryOp.{BinaryOp}
use Rattle.hir_base.specs.declared.operators.BinaryOp.TheVariants as binary
use Rattle.hir_node.specs.declared.expr.Expr.{Expr}
use Rattle.hir_node.specs.declared.expr.Expr.TheVariants as expr

-- the precedence of an operator on numbers or bits
abbrev pub of_arith : ArithOp → ExprPrecedence
of_arith arith.Add = Sum
of_arith arith.Sub = Sum
of_arith arith.Mul = Product
of_arith arith.Div = Product
of_arith arith.Rem = Product
of_arith arith.Shl = Shift
of_arith arith.Shr = Shift
of_arith arith.BitXor = BitXor
of_arith arith.BitOr = BitOr
of_arith arith.BitAnd = BitAnd

-- the precedence of an operator between two expressions, which may be missing
abbrev pub of_operator : Option BinaryOp → ExprPrecedence
of_operator None = Unambiguous
of_operator (Some (binary.LogicOp logic.Or)) = LOr
of_operator (Some (binary.LogicOp logic.And)) = LAnd
of_operator (Some (binary.CmpOp op)) = Compare
of_operator (Some (binary.Assignment op)) = Assign
of_operator (Some (binary.ArithOp op)) = of_arith op

abbrev pub precedence : Expr → ExprPrecedence
precedence expr.Missing = Unambiguous
precedence expr.Underscore = Unambiguous
precedence expr.IncludeBytes = Unambiguous
precedence (expr.Path path) = Unambiguous
precedence (expr.Literal literal) = Unambiguous
precedence (expr.Array array) = Unambiguous
precedence (expr.OffsetOf offset) = Unambiguous
precedence (expr.Const e) = Unambiguous
precedence (expr.If condition then_branch else_branch) = Unambiguous
precedence (expr.Let pat expr) = Prefix
precedence (expr.Block id statements tail label unsafe_) = Unambiguous
precedence (expr.Loop body label source) = Unambiguous
precedence (expr.Call callee args) = Postfix
precedence (expr.MethodCall receiver method_name args generic_args) = Postfix
precedence (expr.Match expr arms) = Unambiguous
precedence (expr.Continue label) = Unambiguous
precedence (expr.Break expr label) = Jump
precedence (expr.Return expr) = Jump
precedence (expr.Yield expr) = Jump
precedence (expr.Yeet expr) = Jump
precedence (expr.Become expr) = Jump
precedence (expr.Await expr) = Postfix
precedence (expr.RecordLit path fields spread) = Unambiguous
precedence (expr.Field expr name) = Postfix
precedence (expr.Cast expr type_ref) = Cast
precedence (expr.Ref expr rawness mutability) = Prefix
precedence (expr.UnaryOp expr op) = Prefix
precedence (expr.BinaryOp lhs rhs op) = of_operator op
precedence (expr.Assignment target value) = Assign
precedence (expr.Index base index) = Postfix
precedence (expr.Closure args arg_types ret_type body closure_kind capture_by) = Jump
precedence (expr.Tuple exprs) = Unambiguous
