-- The texts of operators between two expressions.
use Rattle.std.specs.Prelude.{◌∷◌, ◌++◌}
use Rattle.hir_show_grammar.specs.Prelude.{ℕ, true, false, List, [], Option, None, Some, codes, ArithOp, Add, Sub, Mul, Div, Rem, Shl, Shr, BitXor, BitOr, BitAnd, And, Less, Greater, Eq, Ord, BinaryOp}
use Rattle.hir_base.specs.declared.operators.LogicOp.TheVariants.{Or}
use Rattle.hir_base.specs.declared.operators.BinaryOp.TheVariants.{LogicOp as Logic, ArithOp as Arith, CmpOp as Cmp, Assignment}
use Rattle.hir_show_grammar.specs.Readings.{look_up}

abbrev pub operators : List (List ℕ × BinaryOp)
operators =
    (codes "||", Logic Or)
    ∷ (codes "&&", Logic And)
    ∷ (codes "==", Cmp (Eq false))
    ∷ (codes "!=", Cmp (Eq true))
    ∷ (codes "<", Cmp (Ord Less true))
    ∷ (codes "<=", Cmp (Ord Less false))
    ∷ (codes ">", Cmp (Ord Greater true))
    ∷ (codes ">=", Cmp (Ord Greater false))
    ∷ (codes "+", Arith Add)
    ∷ (codes "-", Arith Sub)
    ∷ (codes "*", Arith Mul)
    ∷ (codes "/", Arith Div)
    ∷ (codes "%", Arith Rem)
    ∷ (codes "<<", Arith Shl)
    ∷ (codes ">>", Arith Shr)
    ∷ (codes "^", Arith BitXor)
    ∷ (codes "|", Arith BitOr)
    ∷ (codes "&", Arith BitAnd)
    ∷ (codes "=", Assignment None)
    ∷ (codes "+=", Assignment (Some Add))
    ∷ (codes "-=", Assignment (Some Sub))
    ∷ (codes "*=", Assignment (Some Mul))
    ∷ (codes "/=", Assignment (Some Div))
    ∷ (codes "%=", Assignment (Some Rem))
    ∷ (codes "<<=", Assignment (Some Shl))
    ∷ (codes ">>=", Assignment (Some Shr))
    ∷ (codes "^=", Assignment (Some BitXor))
    ∷ (codes "|=", Assignment (Some BitOr))
    ∷ (codes "&=", Assignment (Some BitAnd))
    ∷ []

-- the operator that the word is
unfoldable pub op_of : List ℕ → Option BinaryOp
op_of word = look_up operators word

abbrev pub arith_text : ArithOp → List ℕ
arith_text Add = codes "+"
arith_text Sub = codes "-"
arith_text Mul = codes "*"
arith_text Div = codes "/"
arith_text Rem = codes "%"
arith_text Shl = codes "<<"
arith_text Shr = codes ">>"
arith_text BitXor = codes "^"
arith_text BitOr = codes "|"
arith_text BitAnd = codes "&"

-- how an operator is written
abbrev pub op_text : BinaryOp → List ℕ
op_text (Logic Or) = codes "||"
op_text (Logic And) = codes "&&"
op_text (Cmp (Eq false)) = codes "=="
op_text (Cmp (Eq true)) = codes "!="
op_text (Cmp (Ord Less true)) = codes "<"
op_text (Cmp (Ord Less false)) = codes "<="
op_text (Cmp (Ord Greater true)) = codes ">"
op_text (Cmp (Ord Greater false)) = codes ">="
op_text (Arith op) = arith_text op
op_text (Assignment None) = codes "="
op_text (Assignment (Some op)) = arith_text op ++ codes "="
