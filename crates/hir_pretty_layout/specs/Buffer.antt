-- How the buffer holds a page.
use Rattle.std.specs.Prelude.{◌≡◌, ◌≢◌, ℕ, ◌*◌, ◌-◌, ◌/◌, ◌<◌, ◌≤◌, List, [], ◌∷◌, ◌++◌, length, drop, replicate, ◌==◌, if◌then◌else◌, slice_index, string_bytes}
use Rattle.hir_pretty_layout.specs.declared.buffer.PageBuffer.TheInside.{Inside}
use Rattle.hir_pretty_layout.specs.Page.{Page, Lines, page_text}

-- a character more
abbrev pub one_more : ℕ → Lines → Lines
one_more c l = if c == 10 then (l.1 ∷ l.0, []) else (l.0, l.1 ++ (c ∷ []))

abbrev pub continue_lines : Lines → List ℕ → Lines
continue_lines l [] = l
continue_lines l (c ∷ cs) = continue_lines (one_more c l) cs

-- the lines of a text
unfoldable pub lines_of : List ℕ → Lines
lines_of = continue_lines ([], [])

-- up to the length are the text's characters but the trailing spaces
pub record IsTrimmedLen (text : List ℕ) (len : ℕ) : Type 0 where
  pub within : len ≤ length text
  pub spaces : drop len text ≡ replicate (length text - len) 32
  pub before : 0 < len → slice_index text (len - 1) ≢ 32

-- the level of an indentation of four spaces a level
abbrev pub level_of : List ℕ → ℕ
level_of spaces = length spaces / 4

abbrev pub page_of : Inside → Page
page_of b = let l = lines_of (string_bytes b.text) in
    record { above = l.0; last = l.1; level = level_of (string_bytes b.indentation); format = b.format }

-- the trailing spaces are known, and the indentation is one
pub record IsPageBuffer (b : Inside) : Type 0 where
  pub kept : IsTrimmedLen (string_bytes b.text) b.kept
  pub spaces : string_bytes b.indentation ≡ replicate (4 * level_of (string_bytes b.indentation)) 32

-- a page to which only text was added, in whatever format
pub record IsGrown (old new : Page) : Type 0 where
  pub added : List ℕ
  pub text : page_text new ≡ page_text old ++ added
  pub level : new.level ≡ old.level
