-- The arms of a match and the statements of a block. Each is one word, whose parts are separated by colons.
use Rattle.std.specs.Prelude.{◌∷◌}
use Rattle.hir_show_grammar.specs.Prelude.{ℕ, Bool, true, false, List, [], Option, codes, MatchArm, Statement, Let, MacroDef, Other}
use Rattle.hir_node.specs.declared.expr_types.Statement.TheVariants.{Expr as ExprStatement, Item as ItemStatement}
use Rattle.hir_show_grammar.specs.Readings.{Reading, ◌>>=◌, gives, whole, split_parts, colon}
use Rattle.hir_show_grammar.specs.Words.{number, optional, one_of}

-- pattern, guard, body
abbrev pub arm : Reading MatchArm
arm = do
  pat ← number
  guard ← optional
  body ← number
  gives (record { pat = pat; guard = guard; expr = body })

-- pattern, type, initializer, else
abbrev pub let_statement : Reading Statement
let_statement = do
  pat ← number
  type_ref ← optional
  initializer ← optional
  else_branch ← optional
  gives (Let pat type_ref initializer else_branch)

-- with a semicolon or without one
abbrev pub expr_statement : Bool → Reading Statement
expr_statement has_semi = do
  expr ← number
  gives (ExprStatement expr has_semi)

abbrev pub macro_statement : Reading Statement
macro_statement = do
  definition ← number
  gives (ItemStatement (MacroDef definition))

abbrev pub item_statement : Reading Statement
item_statement = gives (ItemStatement Other)

abbrev pub statement_forms : List (List ℕ × Reading Statement)
statement_forms =
    (codes "let", let_statement)
    ∷ (codes "semi", expr_statement true)
    ∷ (codes "expr", expr_statement false)
    ∷ (codes "macro", macro_statement)
    ∷ (codes "item", item_statement)
    ∷ []

unfoldable pub arm_of : List ℕ → Option MatchArm
arm_of word = whole arm (split_parts colon word)

unfoldable pub statement_of : List ℕ → Option Statement
statement_of word = whole (one_of statement_forms) (split_parts colon word)
