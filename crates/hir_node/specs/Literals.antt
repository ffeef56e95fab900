-- Defines the negation of a literal.
use Rattle.std.specs.Prelude.{suc, ◌-◌, ◌^◌, ◌==◌, cond, ℤ, pos, negsuc, neg_ℤ, Option, Some, None}
use Rattle.hir_node.specs.declared.literal.Literal.{Literal}
use Rattle.hir_node.specs.declared.literal.Literal.TheVariants.{String, ByteString, CString, Char, Bool, Int, Uint, Float}

-- the negated number in 128 bits; the least, whose negation doesn't fit, is unchanged
-- (`negsuc n` is -(n + 1))
abbrev pub negate_number : ℤ → ℤ
negate_number (pos n) = neg_ℤ (pos n)
negate_number (negsuc n) = cond (n == 2 ^ 127 - 1) (negsuc n) (pos (suc n))

-- only an `Int` can be negated
abbrev pub negate : Literal → Option Literal
negate (Int value suffix) = Some (Int (negate_number value) suffix)
negate (String text) = None
negate (ByteString bytes) = None
negate (CString bytes) = None
negate (Char c) = None
negate (Bool b) = None
negate (Uint value suffix) = None
negate (Float number suffix) = None
