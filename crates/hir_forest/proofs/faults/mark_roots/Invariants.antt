use Rattle.std.proofs.Common.{ℕ, ◌<◌, ◌↔◌, take, Contains}
use Rattle.hir_forest.specs.Forest.{Marks}
use Rattle.hir_forest.specs.Faults.{root_nodes}
use Rattle.hir_forest.proofs.faults.mark_roots.Given as goal

abbrev pub invariant-loop-root : goal.invariant-loop-root
invariant-loop-root l = (c : ℕ) → Marks l.marked c ↔ (Contains (root_nodes (take l.root-index l.roots)) c × (c < l.limit))
