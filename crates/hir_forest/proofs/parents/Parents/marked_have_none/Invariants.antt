use Rattle.std.proofs.Common.{ℕ, ◌<◌}
use Rattle.hir_forest.specs.Forest.{Marks}
use Rattle.hir_forest.specs.Parents.{HasParent}
use Rattle.hir_forest.proofs.parents.Parents.marked_have_none.Given as goal

abbrev pub invariant-loop-node : goal.invariant-loop-node
invariant-loop-node l = (c p : ℕ) → c < l.node → Marks l.fn.marks c → HasParent l.fn.self.parents c p → ⊥
