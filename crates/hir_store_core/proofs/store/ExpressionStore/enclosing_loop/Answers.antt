use Rattle.hir_store_core.specs.JumpTargets.{enclosing_loop}
use Rattle.hir_store_core.proofs.store.ExpressionStore.enclosing_loop.Goals as goal

pub returns : goal.returns
unfolding enclosing_loop
returns c = c.nearest_in_closure.ensures
