-- Defines how tightly expressions bind, and where a child needs parentheses.
use Rattle.std.specs.Prelude.{ℕ, Bool, false, ◌&&◌, nat_lt, nat_le}
use Rattle.hir_base.specs.declared.prec.ExprPrecedence.{ExprPrecedence}
use Rattle.hir_base.specs.declared.prec.ExprPrecedence.TheVariants.{Jump, Assign, Range, LOr, LAnd, Compare, BitOr, BitXor, BitAnd, Shift, Sum, Product, Cast, Prefix, Postfix, Unambiguous}

-- the place in the order, from low to high
abbrev pub level : ExprPrecedence → ℕ
level Jump = 0
level Assign = 1
level Range = 2
level LOr = 3
level LAnd = 4
level Compare = 5
level BitOr = 6
level BitXor = 7
level BitAnd = 8
level Shift = 9
level Sum = 10
level Product = 11
level Cast = 12
level Prefix = 13
level Postfix = 14
level Unambiguous = 15

-- whether the child binds less than the parent
abbrev pub is_lower : ExprPrecedence → ExprPrecedence → Bool
is_lower child parent = nat_lt (level child) (level parent)

-- In an unambiguous parent no child needs parentheses. In a postfix each child that binds less needs them,
-- and in a prefix each that binds less, but for a jump. In any other parent a child of the parent's own
-- precedence needs them as well.
abbrev pub needs_parentheses : ExprPrecedence → ExprPrecedence → Bool
needs_parentheses child Unambiguous = false
needs_parentheses child Postfix = is_lower child Postfix
needs_parentheses child Prefix = is_lower Jump child && is_lower child Prefix
needs_parentheses child parent = nat_le (level child) (level parent)
