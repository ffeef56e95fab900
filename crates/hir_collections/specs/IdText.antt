-- Defines the text of an id: the kind of id, and its number in parentheses.
use Rattle.std.specs.Prelude.{ℕ, List, ◌++◌, codes, decimal}

-- as `FunctionId(7)`
abbrev pub id_text : List ℕ → ℕ → List ℕ
id_text kind number = kind ++ codes "(" ++ decimal number ++ codes ")"
