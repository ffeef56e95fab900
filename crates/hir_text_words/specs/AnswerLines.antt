-- The lines of a text, and those that an answer is written as.
use Rattle.std.specs.Prelude.{ℕ, Bool, eqb, cond, List, [], ◌∷◌, ◌++◌, string_bytes, Option, None, Some}
use Rattle.std.specs.List.{slice_split}
use Rattle.hir_text_words.specs.declared.answer.Answer.{Answer}

abbrev pub is_line_end : ℕ → Bool
is_line_end b = eqb b 10

-- the lines of a text, without their ends: after the last end comes one more, which may be empty
abbrev pub text_lines : List ℕ → List (List ℕ)
text_lines text = slice_split is_line_end text

-- the same where there may be no text
abbrev pub lines_left : Option (List ℕ) → List (List ℕ)
lines_left None = []
lines_left (Some text) = text_lines text

-- what comes between the mark of a line and the line: a space, where there is something
abbrev pub space_of : List ℕ → List ℕ
space_of [] = []
space_of (b ∷ bs) = 32 ∷ []

-- a line of an answer with its end
abbrev pub marked_line : ℕ → List ℕ → List ℕ
marked_line mark line = mark ∷ (space_of line ++ line ++ 10 ∷ [])

-- the same after what was written before
abbrev pub with_line : List ℕ → ℕ → List ℕ → List ℕ
with_line before mark line = (((before ++ mark ∷ []) ++ space_of line) ++ line) ++ 10 ∷ []

-- each with its end: the first has this mark, and the others have `|`
abbrev pub marked_lines : ℕ → List (List ℕ) → List ℕ
marked_lines mark [] = []
marked_lines mark (line ∷ lines) = marked_line mark line ++ marked_lines 124 lines

-- an answer: its first line has the mark `=`, or `!` where it is a refusal
abbrev pub answer_lines : Answer → List ℕ
answer_lines answer = marked_lines (cond answer.is_refusal 33 61) (text_lines (string_bytes answer.text))
