-- Abbreviates the numbers of ids of nodes, so that a definition says which id it takes.
use Rattle.std.specs.Prelude.{ℕ}

-- the id of an expression
abbrev pub ExprId : Type 0
ExprId = ℕ

-- the id of a pattern
abbrev pub PatId : Type 0
PatId = ℕ

-- the id of a binding
abbrev pub BindingId : Type 0
BindingId = ℕ

-- the id of a label
abbrev pub LabelId : Type 0
LabelId = ℕ

-- the id of a reference to a type
abbrev pub TypeRefId : Type 0
TypeRefId = ℕ

-- the id of a reference to a lifetime
abbrev pub LifetimeRefId : Type 0
LifetimeRefId = ℕ
