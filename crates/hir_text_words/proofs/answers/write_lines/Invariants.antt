use Rattle.std.proofs.Common.{◌≡◌, ◌++◌, length, option_map}
use Rattle.hir_text_words.specs.AnswerLines.{lines_left, marked_lines}
use Rattle.hir_text_words.proofs.answers.write_lines.Given as goal

abbrev pub invariant-lines : goal.invariant-lines
invariant-lines l = l.out.items ++ marked_lines l.mark (lines_left (option_map (λ t. t.now) l.left)) ≡ l.initial.out.items ++ marked_lines l.initial.mark (lines_left (option_map (λ t. t.now) l.initial.left))

abbrev pub decreases-lines : goal.decreases-lines
decreases-lines l = length (lines_left (option_map (λ t. t.now) l.left))
