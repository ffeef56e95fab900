-- What the text of a node is made of: layouts, definitions that are missing, and nodes inside it.
use Rattle.std.specs.Prelude.{ℕ, Bool, true, false, List, [], ◌∷◌, ◌++◌, Option, Some, None, codes, decimal}
use Rattle.hir_base.specs.declared.prec.ExprPrecedence.{ExprPrecedence}
use Rattle.hir_path.specs.NodeIds.{ExprId, PatId, TypeRefId}
use Rattle.hir_store_core.specs.declared.missing.Missing.{Missing}
use Rattle.hir_pretty_layout.specs.Layouts.{Layout, Text, SoftSpace, Break, Indent, Outdent}

-- a layout; a missing definition; an expression without a parent, or under a precedence; a pattern; a type
pub data Doc : Type 0 where
  Put : Layout → Doc
  MissingDoc : Missing → Doc
  ExprDoc : ExprId → Doc
  ExprIn : ExprId → ExprPrecedence → Doc
  Pattern : PatId → Doc
  TypeDoc : TypeRefId → Doc

-- one document of each kind
abbrev pub text : List ℕ → List Doc
text bytes = Put (Text bytes) ∷ []

abbrev pub sp : List Doc
sp = Put SoftSpace ∷ []

abbrev pub br : List Doc
br = Put Break ∷ []

abbrev pub into : List Doc
into = Put Indent ∷ []

abbrev pub out : List Doc
out = Put Outdent ∷ []

abbrev pub e : ExprId → List Doc
e id = ExprDoc id ∷ []

abbrev pub under : ExprPrecedence → ExprId → List Doc
under parent id = ExprIn id parent ∷ []

abbrev pub p : PatId → List Doc
p id = Pattern id ∷ []

abbrev pub t : TypeRefId → List Doc
t id = TypeDoc id ∷ []

-- the documents of a part, where it is present
abbrev pub opt : {X : Type 0} → (X → List Doc) → Option X → List Doc
opt docs None = []
opt docs (Some x) = docs x

-- the documents, where the condition holds
abbrev pub when : Bool → List Doc → List Doc
when true docs = docs
when false docs = []

-- lists of documents with a separator between them
abbrev pub join : List Doc → List (List Doc) → List Doc
join between [] = []
join between (x ∷ []) = x
join between (x ∷ y ∷ xs) = x ++ between ++ join between (y ∷ xs)

-- separated by `, `
abbrev pub comma_joined : List (List Doc) → List Doc
comma_joined = join (text (codes ", "))

-- U+FFFD, for a node that is missing
abbrev pub replacement : List Doc
replacement = text (239 ∷ 191 ∷ 189 ∷ [])

-- a kind of id with its number, as `ExprId(3)`
abbrev pub with_number : List ℕ → ℕ → List Doc
with_number kind id = text kind ++ text (codes "(") ++ text (decimal id) ++ text (codes ")")
