use Rattle.std.proofs.Common.{subst}
use Rattle.memchr.specs.Find.{is_byte, IsFirstByte}
use Rattle.hir_text_words.proofs.LineLemmas.{first_line, only_line}
use Rattle.hir_text_words.proofs.lines.cut_line.Goals as goal

pub returns-in-Some : goal.returns-in-Some
returns-in-Some c = first_line _ _ (subst (IsFirstByte (is_byte 10) c.args.text.now) c.in-Some.is c.memchr.ensures)

pub returns-in-None : goal.returns-in-None
returns-in-None c = only_line _ (subst (IsFirstByte (is_byte 10) c.args.text.now) c.in-None.is c.memchr.ensures)
