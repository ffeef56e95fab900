use Rattle.std.proofs.Common.{◌∙◌, ap, sym}
use Rattle.hir_store_core.specs.JumpTargets.{is_loop, if_passes, target_by_role, jump_target}
use Rattle.hir_store_core.proofs.NearestLemmas.{goes_nowhere}
use Rattle.hir_store_core.proofs.store.ExpressionStore.jump_target.Goals as goal

pub returns-in-Break : goal.returns-in-Break
unfolding jump_target
returns-in-Break c = c.left_by.ensures ∙ ap (target_by_role c.args.self.now.nodes c.args.expr) (sym c.in-Break.is ∙ c.role_at.ensures)

pub returns-in-Continue : goal.returns-in-Continue
unfolding jump_target
returns-in-Continue c =
    c.if_loop.ensures ∙ ap (if_passes c.args.self.now.nodes is_loop) c.left_by-in-Continue.ensures
    ∙ ap (target_by_role c.args.self.now.nodes c.args.expr) (sym c.in-Continue.is ∙ c.role_at.ensures)

pub returns-in-Closure : goal.returns-in-Closure
unfolding jump_target
returns-in-Closure c =
    goes_nowhere c.args.self.now.nodes c.args.expr c.role_at.result c.in-Closure.is ∙ ap (target_by_role c.args.self.now.nodes c.args.expr) c.role_at.ensures
