-- A page of text, and what layouts make of it.
use Rattle.std.specs.Prelude.{ℕ, ◌+◌, ◌*◌, ◌-◌, Bool, true, false, List, [], ◌∷◌, ◌++◌, replicate, ◌==◌, if◌then◌else◌}
use Rattle.hir_pretty_layout.specs.declared.line_format.LineFormat.{LineFormat}
use Rattle.hir_pretty_layout.specs.declared.line_format.LineFormat.TheVariants.{Oneline, Newline, Indentation}
use Rattle.hir_pretty_layout.specs.Layouts.{Layout, Text, SoftSpace, Break, Indent, Outdent}
use Rattle.hir_pretty_layout.specs.Steps.{steps}

-- lines: those above the last, the nearest first, and the last
abbrev pub Lines : Type 0
Lines = List (List ℕ) × List ℕ

-- A page: its lines, the level of the lines to come, and how the next text is laid out. The format is
-- Indentation where that text begins a line.
pub record Page : Type 0 where
  pub above : List (List ℕ)
  pub last : List ℕ
  pub level : ℕ
  pub format : LineFormat

-- one empty line
abbrev pub empty_page : LineFormat → Page
empty_page format = record { above = []; last = []; level = 0; format = format }

-- the lines, joined by line ends
abbrev pub lines_text : List (List ℕ) → List ℕ → List ℕ
lines_text [] last = last
lines_text (line ∷ above) last = lines_text above line ++ (10 ∷ last)

abbrev pub page_text : Page → List ℕ
page_text p = lines_text p.above p.last

-- a line that holds only spaces
abbrev pub is_blank : List ℕ → Bool
is_blank [] = true
is_blank (c ∷ cs) = if c == 32 then is_blank cs else false

abbrev pub is_empty_line : List ℕ → Bool
is_empty_line [] = true
is_empty_line (c ∷ cs) = false

abbrev pub ends_in_space : List ℕ → Bool
ends_in_space [] = false
ends_in_space (c ∷ []) = c == 32
ends_in_space (c ∷ d ∷ cs) = ends_in_space (d ∷ cs)

-- a line without its trailing spaces
abbrev pub trim : List ℕ → List ℕ
trim [] = []
trim (c ∷ cs) = if is_blank (c ∷ cs) then [] else c ∷ trim cs

-- the format after text that ends within a line, and after a line end; what is printed in one line stays so
abbrev pub format_in_line : LineFormat → LineFormat
format_in_line Oneline = Oneline
format_in_line Newline = Newline
format_in_line Indentation = Newline

abbrev pub format_after_end : LineFormat → LineFormat
format_after_end Oneline = Oneline
format_after_end Newline = Indentation
format_after_end Indentation = Indentation

-- four spaces for each level
abbrev pub indent : Page → Page
indent p = record p { last = p.last ++ replicate (4 * p.level) 32 }

-- a new line, unless the last is blank
abbrev pub on_new_line : Page → Page
on_new_line p = if is_blank p.last then p else record p { above = p.last ∷ p.above; last = [] }

-- where the next text begins a line, that line is begun and indented
abbrev pub begin_in : LineFormat → Page → Page
begin_in Oneline p = p
begin_in Newline p = p
begin_in Indentation p = indent (on_new_line p)

abbrev pub begin : Page → Page
begin p = begin_in p.format p

-- a character of text: a line end begins an empty line, and any other goes into the last line
abbrev pub put : ℕ → Page → Page
put c p = let q = begin p in
    if c == 10 then record q { above = q.last ∷ q.above; last = []; format = format_after_end p.format }
    else record q { last = q.last ++ (c ∷ []); format = format_in_line p.format }

abbrev pub put_all : List ℕ → Page → Page
put_all [] p = p
put_all (c ∷ cs) p = put_all cs (put c p)

-- a space, unless the last line is empty or ends in one
abbrev pub with_space : Page → Page
with_space p = if is_empty_line p.last then p else (if ends_in_space p.last then p
    else record p { last = p.last ++ (32 ∷ []) })

-- a break in lines: nothing after a blank line; else the line's trailing spaces are removed, and a line end
-- is added
abbrev pub line_ended : Page → Page
line_ended p = if is_blank p.last then p else put 10 (record p { last = trim p.last })

abbrev pub is_empty_text : List (List ℕ) → List ℕ → Bool
is_empty_text [] last = is_empty_line last
is_empty_text (line ∷ above) last = false

-- a break in one line: a space, unless the text is empty or ends in one
abbrev pub with_join : Page → Page
with_join p = if is_empty_text p.above p.last then p
    else (if ends_in_space p.last then p else record p { last = p.last ++ (32 ∷ []) })

abbrev pub break_in : LineFormat → Page → Page
break_in Oneline p = with_join p
break_in Newline p = line_ended p
break_in Indentation p = line_ended p

abbrev pub with_break : Page → Page
with_break p = break_in p.format p

-- the lines without empty last ones, while there is more than one
abbrev pub cut_lines : List (List ℕ) → List ℕ → Lines
cut_lines [] last = ([], last)
cut_lines (line ∷ above) [] = cut_lines above line
cut_lines (line ∷ above) (c ∷ cs) = (line ∷ above, c ∷ cs)

abbrev pub without_empty_lines : Page → Page
without_empty_lines p = let l = cut_lines p.above p.last in record p { above = l.0; last = l.1 }

-- what a layout makes of a page
abbrev pub render : Layout → Page → Page
render (Text bytes) p = put_all bytes p
render SoftSpace p = with_space p
render Break p = with_break p
render Indent p = with_break (record p { level = p.level + 1 })
render Outdent p = without_empty_lines (record p { level = p.level - 1 })

abbrev pub all_rendered : List Layout → Page → Page
all_rendered = steps render

-- the text of layouts, in one line or in lines
abbrev pub rendering : LineFormat → List Layout → List ℕ
rendering format ps = page_text (all_rendered ps (empty_page format))
