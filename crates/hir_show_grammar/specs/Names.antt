-- Names, as they are written in a line.
use Rattle.std.specs.Prelude.{ℕ, Bool, not, ◌&&◌, ◌||◌, eqb, nat_le, if◌then◌else◌, List, Option, None, Some, length, slice_index}
use Rattle.std.specs.List.{list_all}
use Rattle.hir_show_grammar.specs.Numerals.{is_digit}

abbrev pub is_letter : ℕ → Bool
is_letter b = (nat_le 97 b && nat_le b 122) || (nat_le 65 b && nat_le b 90)

abbrev pub starts_name : ℕ → Bool
starts_name b = is_letter b || eqb b 95

abbrev pub continues_name : ℕ → Bool
continues_name b = starts_name b || is_digit b

-- a letter or an underscore, then letters, digits or underscores
abbrev pub is_name : List ℕ → Bool
is_name text = not (eqb (length text) 0) && (starts_name (slice_index text 0) && list_all continues_name text)

-- the text, if it is a name
abbrev pub name_of : List ℕ → Option (List ℕ)
name_of text = if is_name text then Some text else None
