use Rattle.std.proofs.Common.{rules}
use Rattle.hir_usages.proofs.VisibleLemmas.{visible_step}
use Rattle.hir_usages.proofs.visible.visible_names.Goals as goal

pub loop-current-preserved : goal.loop-current-preserved
loop-current-preserved c = search (rules, visible_step)
