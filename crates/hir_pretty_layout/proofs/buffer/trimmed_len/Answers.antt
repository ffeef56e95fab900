use Rattle.std.proofs.Common.{rules}
use Rattle.hir_pretty_layout.proofs.EndLemmas.{spaces_more}
use Rattle.hir_pretty_layout.proofs.buffer.trimmed_len.Goals as goal

pub loop-len-preserved : goal.loop-len-preserved
loop-len-preserved c = search (rules, spaces_more)
