use Rattle.hir_show_grammar.proofs.WrittenLines.{reads}
use Rattle.hir_show_grammar.proofs.laws.written_is_said.Goals as goal

pub returns : goal.returns
returns c = λ text line good written. reads line text written good
