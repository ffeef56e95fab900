-- The layouts of strings, characters and bytes, as source text writes them.
use Rattle.std.specs.Prelude.{ℕ, ◌/◌, ◌%◌, List, [], ◌∷◌, ◌++◌, nat_lt, ◌==◌, ◌||◌, if◌then◌else◌, codes}
use Rattle.std.specs.List.{flat_map}
use Rattle.std.specs.Char.{digit_char, encode_utf8, is_ascii_control}
use Rattle.std.specs.Str.{chars}
use Rattle.hir_pretty_layout.specs.Layouts.{Layout, Text}

-- the escapes of two characters, or nothing: \0 \t \r \n \\ \" \'
abbrev pub short_escape : ℕ → List ℕ
short_escape c = if c == 0 then codes "\\0" else if c == 9 then codes "\\t" else if c == 13 then codes "\\r"
    else if c == 10 then codes "\\n"
    else if c == 92 then codes "\\\\" else if c == 34
    then codes "\\\"" else if c == 39 then codes "\\'" else []

-- the digits of a number below 256 in hexadecimal: each, and without a leading 0
abbrev pub two_digits : ℕ → List Layout
two_digits n = Text (digit_char (n / 16) ∷ []) ∷ Text (digit_char (n % 16) ∷ []) ∷ []

abbrev pub hexadecimal : ℕ → List Layout
hexadecimal n = if nat_lt n 16 then Text (digit_char n ∷ []) ∷ [] else two_digits n

-- a character without a short escape: an ASCII control as \u{..}, any other as it is
abbrev pub control_escape : ℕ → List Layout
control_escape c = Text (codes "\\u{") ∷ (hexadecimal c ++ (Text (codes "}") ∷ []))

abbrev pub long_escape : ℕ → List Layout
long_escape c = if is_ascii_control c then control_escape c else Text (encode_utf8 c) ∷ []

-- a byte without a short escape: printable ASCII as it is, any other as \x..
abbrev pub byte_escape : ℕ → List Layout
byte_escape b = if nat_lt b 32 || nat_lt 126 b then Text (codes "\\x") ∷ two_digits b else Text (b ∷ []) ∷ []

-- the short escape, if there is one
abbrev pub escaped_by : List ℕ → List Layout → List Layout
escaped_by [] long = long
escaped_by (c ∷ cs) long = Text (c ∷ cs) ∷ []

-- a single quote in a string is written as it is, and a byte 0 is \x00
abbrev pub escape_in_string : ℕ → List ℕ
escape_in_string c = if c == 39 then [] else short_escape c

abbrev pub escape_in_bytes : ℕ → List ℕ
escape_in_bytes b = if b == 0 then [] else short_escape b

-- a character in a string, a character as a literal of its own, and a byte
abbrev pub string_char : ℕ → List Layout
string_char c = escaped_by (escape_in_string c) (long_escape c)

abbrev pub lone_char : ℕ → List Layout
lone_char c = escaped_by (short_escape c) (long_escape c)

abbrev pub byte_pieces : ℕ → List Layout
byte_pieces b = escaped_by (escape_in_bytes b) (byte_escape b)

-- layouts after a double quote, and this text after them
abbrev pub quoted : List Layout → List ℕ → List Layout
quoted ps end = Text (codes "\"") ∷ (ps ++ (Text end ∷ []))

-- literals: a string by its text, a character, bytes, and a C string, whose closing 0 is written
abbrev pub string_literal : List ℕ → List Layout
string_literal text = quoted (flat_map string_char (chars text)) (codes "\"")

abbrev pub char_literal : ℕ → List Layout
char_literal c = Text (codes "'") ∷ (lone_char c ++ (Text (codes "'") ∷ []))

abbrev pub bytes_literal : List ℕ → List Layout
bytes_literal bytes = quoted (flat_map byte_pieces bytes) (codes "\"")

abbrev pub c_string_literal : List ℕ → List Layout
c_string_literal bytes = quoted (flat_map byte_pieces bytes) (codes "\\0\"")
