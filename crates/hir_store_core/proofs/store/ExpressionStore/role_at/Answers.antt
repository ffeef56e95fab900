use Rattle.std.proofs.Common.{◌∙◌, ap}
use Rattle.hir_store_core.specs.JumpTargets.{role_in}
use Rattle.hir_store_core.proofs.store.ExpressionStore.role_at.Goals as goal

pub returns-in-Some : goal.returns-in-Some
returns-in-Some c = c.of.ensures ∙ ap role_in (rw c.in-Some.is at c.get.ensures)

pub returns-in-None : goal.returns-in-None
returns-in-None c = ap role_in (rw c.in-None.is at c.get.ensures)
