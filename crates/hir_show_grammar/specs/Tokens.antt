-- The words of a line by what they say, and how each is written.
use Rattle.std.specs.Prelude.{◌≡◌, ◌<◌, ◌^◌, ◌⊎◌, ◌∷◌}
use Rattle.hir_show_grammar.specs.Prelude.{ℕ, ℤ, pos, true, false, List, [], Option, None, Some, FitsSigned, codes, decimal, signed_decimal, w128, AllZip, join_with_byte, BinaryOp, MatchArm, Statement, Let, Item, MacroDef, Other}
use Rattle.hir_node.specs.declared.expr_types.Statement.TheVariants.{Expr}
use Rattle.hir_show_grammar.specs.Names.{is_name}
use Rattle.hir_show_grammar.specs.Operators.{op_text}
use Rattle.hir_show_grammar.specs.Readings.{space, colon, comma}

-- what a word says
pub data Token : Type 0 where
  Word : List ℕ → Token
  Name : List ℕ → Token
  Number : ℕ → Token
  Optional : Option ℕ → Token
  Numbers : List ℕ → Token
  Integer : ℤ → Token
  Operator : BinaryOp → Token
  Arm : MatchArm → Token
  Stmt : Statement → Token

-- a number, in decimal
abbrev pub IsNumber : ℕ → List ℕ → Type 0
IsNumber n word = (n < 2 ^ 32) × (word ≡ decimal n)

-- a number, or a dash for none
abbrev pub IsOptional : Option ℕ → List ℕ → Type 0
IsOptional None word = word ≡ codes "-"
IsOptional (Some n) word = IsNumber n word

-- numbers separated by commas, or a dash for none
abbrev pub IsNumbers : List ℕ → List ℕ → Type 0
IsNumbers [] word = word ≡ codes "-"
IsNumbers (n ∷ ns) word =
    (words : List (List ℕ)) × AllZip IsNumber (n ∷ ns) words × (word ≡ join_with_byte comma words)

-- an integer of 128 bits in decimal; the zero may have a minus
abbrev pub IsInteger : ℤ → List ℕ → Type 0
IsInteger z word = FitsSigned w128 z × ((word ≡ signed_decimal z) ⊎ ((z ≡ pos 0) × (word ≡ codes "-0")))

-- the parts of an arm or a statement, separated by colons
abbrev pub colons : List (List ℕ) → List ℕ
colons parts = join_with_byte colon parts

-- pattern, guard, body
abbrev pub IsArm : MatchArm → List ℕ → Type 0
IsArm arm word =
    (pat guard body : List ℕ) × IsNumber arm.pat pat × IsOptional arm.guard guard × IsNumber arm.expr body
    × (word ≡ colons (pat ∷ guard ∷ body ∷ []))

-- the parts of a `let`: pattern, type, initializer, else
abbrev pub IsStatement : Statement → List ℕ → Type 0
IsStatement (Let pat type_ref initializer else_branch) word =
    (p t i e : List ℕ) × IsNumber pat p × IsOptional type_ref t × IsOptional initializer i
    × IsOptional else_branch e × (word ≡ colons (codes "let" ∷ p ∷ t ∷ i ∷ e ∷ []))
IsStatement (Expr expr true) word = (e : List ℕ) × IsNumber expr e × (word ≡ colons (codes "semi" ∷ e ∷ []))
IsStatement (Expr expr false) word = (e : List ℕ) × IsNumber expr e × (word ≡ colons (codes "expr" ∷ e ∷ []))
IsStatement (Item (MacroDef definition)) word =
    (n : List ℕ) × IsNumber definition n × (word ≡ colons (codes "macro" ∷ n ∷ []))
IsStatement (Item Other) word = word ≡ codes "item"

-- how a word is written that says this
abbrev pub IsWord : Token → List ℕ → Type 0
IsWord (Word text) word = word ≡ text
IsWord (Name text) word = (is_name text ≡ true) × (word ≡ text)
IsWord (Number n) word = IsNumber n word
IsWord (Optional n) word = IsOptional n word
IsWord (Numbers ns) word = IsNumbers ns word
IsWord (Integer z) word = IsInteger z word
IsWord (Operator op) word = word ≡ op_text op
IsWord (Arm arm) word = IsArm arm word
IsWord (Stmt statement) word = IsStatement statement word

-- the text of words that say this, with one space between them
abbrev pub IsText : List Token → List ℕ → Type 0
IsText tokens text =
    (words : List (List ℕ)) × AllZip IsWord tokens words × (text ≡ join_with_byte space words)
