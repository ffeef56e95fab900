use Rattle.std.proofs.Common.{ℕ, List, length, option_map}
use Rattle.hir_text_words.specs.declared.lines.Outcome.{Outcome}
use Rattle.hir_text_words.specs.AnswerLines.{lines_left}
use Rattle.hir_text_words.specs.TakesText.{next_number, TakesLines, TakesText}
use Rattle.hir_text_words.proofs.taking.take_lines.Given as goal

-- what comes of the lines that are left comes of the text
abbrev pub invariant-lines : goal.invariant-lines
invariant-lines g l = (new : g.row.L.Denot) (all : List ℕ) (result : Outcome)
    → TakesLines g.L.Lines.takes (next_number l.number) l.outcome l.lines l.answers.items (lines_left (option_map (λ t. t.now) l.left)) new all result
    → TakesText g.L.Lines.takes l.initial.lines l.fn.text new all result

abbrev pub decreases-lines : goal.decreases-lines
decreases-lines g l = length (lines_left (option_map (λ t. t.now) l.left))
