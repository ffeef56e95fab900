use Rattle.hir_show_grammar.proofs.WrittenLines.{is_written}
use Rattle.hir_show_grammar.proofs.laws.said_is_written.Goals as goal

pub returns : goal.returns
returns c = is_written
