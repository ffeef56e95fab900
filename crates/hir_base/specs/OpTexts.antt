-- Defines the texts of operators and of the suffixes of numbers.
use Rattle.std.specs.Prelude.{ℕ, List, ◌++◌, Bool, true, false, Option, Some, None, codes}
use Rattle.hir_base.specs.declared.operators.ArithOp.{ArithOp}
use Rattle.hir_base.specs.declared.operators.ArithOp.TheVariants.{Add, Sub, Mul, Div, Rem, Shl, Shr, BitXor, BitOr, BitAnd}
use Rattle.hir_base.specs.declared.operators.LogicOp.{LogicOp}
use Rattle.hir_base.specs.declared.operators.LogicOp.TheVariants.{And, Or}
use Rattle.hir_base.specs.declared.operators.Ordering.{Ordering}
use Rattle.hir_base.specs.declared.operators.Ordering.TheVariants.{Less, Greater}
use Rattle.hir_base.specs.declared.operators.CmpOp.{CmpOp}
use Rattle.hir_base.specs.declared.operators.CmpOp.TheVariants.{Eq, Ord}
use Rattle.hir_base.specs.declared.operators.BinaryOp.{BinaryOp}
use Rattle.hir_base.specs.declared.operators.BinaryOp.TheVariants as binary
use Rattle.hir_base.specs.declared.operators.RangeOp.{RangeOp}
use Rattle.hir_base.specs.declared.operators.RangeOp.TheVariants.{Exclusive, Inclusive}
use Rattle.hir_base.specs.declared.operators.UnaryOp.{UnaryOp}
use Rattle.hir_base.specs.declared.operators.UnaryOp.TheVariants.{Deref, Not, Neg}
use Rattle.hir_base.specs.declared.builtin_type.BuiltinInt.{BuiltinInt}
use Rattle.hir_base.specs.declared.builtin_type.BuiltinInt.TheVariants.{Isize, I8, I16, I32, I64, I128}
use Rattle.hir_base.specs.declared.builtin_type.BuiltinUint.{BuiltinUint}
use Rattle.hir_base.specs.declared.builtin_type.BuiltinUint.TheVariants.{Usize, U8, U16, U32, U64, U128}
use Rattle.hir_base.specs.declared.builtin_type.BuiltinFloat.{BuiltinFloat}
use Rattle.hir_base.specs.declared.builtin_type.BuiltinFloat.TheVariants.{F16, F32, F64, F128}

abbrev pub arith_text : ArithOp → List ℕ
arith_text Add = codes "+"
arith_text Sub = codes "-"
arith_text Mul = codes "*"
arith_text Div = codes "/"
arith_text Rem = codes "%"
arith_text Shl = codes "<<"
arith_text Shr = codes ">>"
arith_text BitXor = codes "^"
arith_text BitOr = codes "|"
arith_text BitAnd = codes "&"

abbrev pub logic_text : LogicOp → List ℕ
logic_text And = codes "&&"
logic_text Or = codes "||"

-- by whether the comparison is strict
abbrev pub ordering_text : Ordering → Bool → List ℕ
ordering_text Less true = codes "<"
ordering_text Less false = codes "<="
ordering_text Greater true = codes ">"
ordering_text Greater false = codes ">="

abbrev pub equality_text : Bool → List ℕ
equality_text true = codes "!="
equality_text false = codes "=="

abbrev pub cmp_text : CmpOp → List ℕ
cmp_text (Eq negated) = equality_text negated
cmp_text (Ord ordering strict) = ordering_text ordering strict

-- `=`, after the operator if there is one
abbrev pub assignment_text : Option ArithOp → List ℕ
assignment_text None = codes "="
assignment_text (Some op) = arith_text op ++ codes "="

abbrev pub binary_text : BinaryOp → List ℕ
binary_text (binary.LogicOp op) = logic_text op
binary_text (binary.ArithOp op) = arith_text op
binary_text (binary.CmpOp op) = cmp_text op
binary_text (binary.Assignment op) = assignment_text op

abbrev pub range_text : RangeOp → List ℕ
range_text Exclusive = codes ".."
range_text Inclusive = codes "..="

abbrev pub unary_text : UnaryOp → List ℕ
unary_text Deref = codes "*"
unary_text Not = codes "!"
unary_text Neg = codes "-"

abbrev pub int_text : BuiltinInt → List ℕ
int_text Isize = codes "isize"
int_text I8 = codes "i8"
int_text I16 = codes "i16"
int_text I32 = codes "i32"
int_text I64 = codes "i64"
int_text I128 = codes "i128"

abbrev pub uint_text : BuiltinUint → List ℕ
uint_text Usize = codes "usize"
uint_text U8 = codes "u8"
uint_text U16 = codes "u16"
uint_text U32 = codes "u32"
uint_text U64 = codes "u64"
uint_text U128 = codes "u128"

abbrev pub float_text : BuiltinFloat → List ℕ
float_text F16 = codes "f16"
float_text F32 = codes "f32"
float_text F64 = codes "f64"
float_text F128 = codes "f128"
