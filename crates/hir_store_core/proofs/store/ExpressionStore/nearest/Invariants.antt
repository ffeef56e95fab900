use Rattle.std.proofs.Common.{◌≡◌, length}
use Rattle.hir_store_core.specs.Ancestors.{ancestors}
use Rattle.hir_store_core.specs.JumpTargets.{nearest}
use Rattle.hir_store_core.specs.internal.Sought.{passes}
use Rattle.hir_store_core.proofs.NearestLemmas.{found_from}
use Rattle.hir_store_core.proofs.store.ExpressionStore.nearest.Given as goal

abbrev pub invariant-loop-parent : goal.invariant-loop-parent
invariant-loop-parent l = found_from l.fn.self.nodes (passes l.fn.sought) l.node ≡ nearest l.fn.self.nodes (passes l.fn.sought) l.fn.expr

abbrev pub decreases-loop-parent : goal.decreases-loop-parent
decreases-loop-parent l = length (ancestors l.fn.self.nodes l.node)
