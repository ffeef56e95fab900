-- What single words say, and reading them.
use Rattle.hir_show_grammar.specs.Prelude.{ℕ, ℤ, List, [], Option, None, Some, codes, option_map, bytes_eq, Edition2015, SyntaxContext, Expansion, BinaryOp, Plain, BarePath}
use Rattle.std.specs.Prelude.{◌∷◌, if◌then◌else◌}
use Rattle.hir_base.specs.declared.hygiene.SyntaxContext.TheVariants.{Root as OfSource}
use Rattle.hir_path.specs.declared.path.Path.{Path}
use Rattle.hir_show_grammar.specs.Numerals.{number_of, int_of}
use Rattle.hir_show_grammar.specs.Names.{name_of}
use Rattle.hir_show_grammar.specs.Operators.{op_of}
use Rattle.hir_show_grammar.specs.Readings.{Reading, ◌>>=◌, gives, first_word, look_up, all_of, split_parts, comma}

-- a number, or a dash for none
unfoldable pub optional_of : List ℕ → Option (Option ℕ)
optional_of word = if bytes_eq word (codes "-") then Some None else option_map (λ n. Some n) (number_of word)

-- numbers separated by commas, or a dash for none
unfoldable pub list_of : List ℕ → Option (List ℕ)
list_of word = if bytes_eq word (codes "-") then Some [] else all_of number_of (split_parts comma word)

abbrev pub number : Reading ℕ
number = first_word number_of

abbrev pub optional : Reading (Option ℕ)
optional = first_word optional_of

abbrev pub list : Reading (List ℕ)
list = first_word list_of

abbrev pub name : Reading (List ℕ)
name = first_word name_of

-- the plain path of one name
abbrev pub plain : List ℕ → Path
plain text = BarePath (record { kind = Plain; segments = text ∷ [] })

abbrev pub path : Reading Path
path = do
  text ← name
  gives (plain text)

abbrev pub int : Reading ℤ
int = first_word int_of

abbrev pub op : Reading BinaryOp
op = first_word op_of

-- the hygiene of source text
abbrev pub of_source : SyntaxContext
of_source = OfSource Edition2015

-- the hygiene of the macro expansion with this number
abbrev pub expansion : Reading SyntaxContext
expansion = do
  n ← number
  gives (Expansion n)

-- where no word is left, the hygiene of source text
abbrev pub hygiene : Reading SyntaxContext
hygiene [] = gives of_source []
hygiene (word ∷ words) = expansion (word ∷ words)

-- the reading, where there is one
abbrev pub by : {X : Type 0} → Option (Reading X) → Reading X
by None words = None
by (Some reading) words = reading words

-- the first word says in a table how to read on
abbrev pub one_of : {X : Type 0} → List (List ℕ × Reading X) → Reading X
one_of forms [] = None
one_of forms (head ∷ words) = by (look_up forms head) words
