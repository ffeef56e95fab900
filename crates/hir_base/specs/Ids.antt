-- Abbreviates names, and the numbers of ids of definitions, so that a definition says what it takes.
use Rattle.std.specs.Prelude.{ℕ, List}

-- a name, as its bytes
abbrev pub Name : Type 0
Name = List ℕ

-- the id of a block expression that holds items
abbrev pub BlockId : Type 0
BlockId = ℕ

-- the id of a macro definition
abbrev pub MacroDefId : Type 0
MacroDefId = ℕ

-- the id of a macro call
abbrev pub MacroCallId : Type 0
MacroCallId = ℕ

-- the id of a crate
abbrev pub CrateId : Type 0
CrateId = ℕ

-- the id of a function
abbrev pub FunctionId : Type 0
FunctionId = ℕ

-- the id of a struct
abbrev pub StructId : Type 0
StructId = ℕ

-- the id of an enum
abbrev pub EnumId : Type 0
EnumId = ℕ

-- the id of a variant of an enum
abbrev pub EnumVariantId : Type 0
EnumVariantId = ℕ
