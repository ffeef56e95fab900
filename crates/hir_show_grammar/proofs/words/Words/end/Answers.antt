use Rattle.hir_show_grammar.proofs.Keeping.{some_left}
use Rattle.hir_show_grammar.proofs.Splits.{has_word}
use Rattle.hir_show_grammar.proofs.words.Words.end.Goals as goal

pub returns-then-not-is_empty : goal.returns-then-not-is_empty
returns-then-not-is_empty g c = has_word c.args.self.now (some_left _ c.args.self.now c.is_empty.ensures c.if-not-is_empty.true)
