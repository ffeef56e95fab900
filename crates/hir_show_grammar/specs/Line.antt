-- What a line may say, and what it says by its words.
use Rattle.std.specs.Prelude.{◌∷◌}
use Rattle.hir_show_grammar.specs.Prelude.{ℕ, Bool, true, false, List, [], Option, None, Some, codes, SyntaxContext, Binding, Unannotated}
use Rattle.hir_path.specs.declared.ids.ExprOrPatId.TheVariants.{ExprId, PatId}
use Rattle.hir_show_grammar.specs.Makers.{Maker, Binding as MakeBinding, Pat as MakePat, TypeRef as MakeType, Expr as MakeExpr, Hygiene, SelfParam, Param, FnName, Roots, Root}
use Rattle.hir_show_grammar.specs.declared.question.Question.{Question}
use Rattle.hir_show_grammar.specs.declared.question.Question.TheVariants.{OfStore, OfBody}
use Rattle.hir_show_grammar.specs.declared.question.StoreQuestion.TheVariants.{Children, RootOf}
use Rattle.hir_show_grammar.specs.declared.question.BodyQuestion.TheVariants.{Chain, Resolve, Print, Captures}
use Rattle.hir_show_grammar.specs.Readings.{Reading, ◌>>=◌, gives, whole, split_parts, space}
use Rattle.hir_show_grammar.specs.Words.{number, name, expansion, hygiene, one_of}
use Rattle.hir_show_grammar.specs.Pats.{pat}
use Rattle.hir_show_grammar.specs.Types.{type_ref}
use Rattle.hir_show_grammar.specs.Exprs.{expr}

pub data Line : Type 0 where
  -- an empty line
  Blank : Line
  Make : Maker → Line
  Ask : Question → Line
  -- any other text
  Bad : Line

-- a binding with no word before its name
abbrev pub plain_binding : List ℕ → SyntaxContext → Binding
plain_binding text context =
    record { name = text; mode = Unannotated; problems = None; hygiene = context }

abbrev pub bind : Reading Maker
bind = do
  text ← name
  context ← hygiene
  gives (MakeBinding (plain_binding text context))

abbrev pub pat_maker : Reading Maker
pat_maker = do
  made ← pat
  gives (MakePat made)

abbrev pub type_maker : Reading Maker
type_maker = do
  made ← type_ref
  gives (MakeType made)

abbrev pub expr_maker : Reading Maker
expr_maker = do
  made ← expr
  gives (MakeExpr made)

-- the hygiene of the path that an expression is
abbrev pub expr_hygiene : Reading Maker
expr_hygiene = do
  id ← number
  context ← expansion
  gives (Hygiene (ExprId id) context)

-- the hygiene of the path that a pattern is
abbrev pub pat_hygiene : Reading Maker
pat_hygiene = do
  id ← number
  context ← expansion
  gives (Hygiene (PatId id) context)

abbrev pub self_param : Reading Maker
self_param = do
  id ← number
  gives (SelfParam id)

abbrev pub param : Reading Maker
param = do
  id ← number
  gives (Param id)

abbrev pub fn_name : Reading Maker
fn_name = do
  text ← name
  gives (FnName text)

abbrev pub root : Reading Maker
root = do
  id ← number
  gives (Root id)

abbrev pub roots : Reading Maker
roots = gives Roots

abbrev pub maker_forms : List (List ℕ × Reading Maker)
maker_forms =
    (codes "bind", bind)
    ∷ (codes "pat", pat_maker)
    ∷ (codes "type", type_maker)
    ∷ (codes "expr", expr_maker)
    ∷ (codes "hygiene", expr_hygiene)
    ∷ (codes "pat-hygiene", pat_hygiene)
    ∷ (codes "self", self_param)
    ∷ (codes "param", param)
    ∷ (codes "fn", fn_name)
    ∷ (codes "roots", roots)
    ∷ (codes "root", root)
    ∷ []

abbrev pub children : Reading Question
children = do
  id ← number
  gives (OfStore (Children id))

abbrev pub root_of : Reading Question
root_of = do
  id ← number
  gives (OfStore (RootOf id))

abbrev pub chain : Reading Question
chain = do
  id ← number
  gives (OfBody (Chain id))

-- what a name resolves to at an expression
abbrev pub resolve : Reading Question
resolve = do
  id ← number
  text ← name
  context ← hygiene
  gives (OfBody (Resolve id text context))

abbrev pub print : Reading Question
print = gives (OfBody Print)

abbrev pub captures : Reading Question
captures = do
  id ← number
  gives (OfBody (Captures id))

abbrev pub question_forms : List (List ℕ × Reading Question)
question_forms =
    (codes "children", children)
    ∷ (codes "root-of", root_of)
    ∷ (codes "chain", chain)
    ∷ (codes "resolve", resolve)
    ∷ (codes "print", print)
    ∷ (codes "captures", captures)
    ∷ []

-- the words of a line that makes something
unfoldable pub maker : Reading Maker
maker words = one_of maker_forms words

-- the words of a question
unfoldable pub question : Reading Question
question words = one_of question_forms words

-- a line by what its words make, or else ask
abbrev pub by_words : Option Maker → Option Question → Line
by_words (Some made) asked = Make made
by_words None (Some asked) = Ask asked
by_words None None = Bad

-- what a line says; its words have one space between them
unfoldable pub line_of : List ℕ → Line
line_of [] = Blank
line_of (b ∷ bs) = by_words (whole maker (split_parts space (b ∷ bs)))
    (whole question (split_parts space (b ∷ bs)))

-- whether a line may come before the first question
abbrev pub makes : Line → Bool
makes Blank = true
makes (Make made) = true
makes (Ask asked) = false
makes Bad = false

-- whether a line may come where these questions may be asked
abbrev pub may_ask : (Question → Bool) → Line → Bool
may_ask may Blank = true
may_ask may (Make made) = false
may_ask may (Ask asked) = may asked
may_ask may Bad = false

abbrev pub any_question : Question → Bool
any_question asked = true

-- whether a line may come after a question
abbrev pub asks : Line → Bool
asks line = may_ask any_question line
