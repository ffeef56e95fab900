use Rattle.std.proofs.Common.{rules}
use Rattle.std.proofs.lemmas.Bool.Decides.{nat_tests}
use Rattle.hir_pretty_layout.proofs.PageLemmas.{put_line, begun_format}
use Rattle.hir_pretty_layout.proofs.buffer.PageBuffer.line.Goals as goal

pub returns-in_ok-add-clause-ok : goal.returns-in_ok-add-clause-ok
returns-in_ok-add-clause-ok c = search (rules, nat_tests, begun_format, put_line)
