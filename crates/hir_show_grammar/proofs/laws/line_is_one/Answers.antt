use Rattle.std.proofs.Common.{sym, ◌∙◌}
use Rattle.hir_show_grammar.proofs.WrittenLines.{reads}
use Rattle.hir_show_grammar.proofs.laws.line_is_one.Goals as goal

pub returns : goal.returns
returns c = λ text line other good fine written also. sym (reads line text written good) ∙ reads other text also fine
