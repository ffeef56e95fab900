use Rattle.std.proofs.Common.{ℕ, ◌<◌, List}
use Rattle.hir_forest.specs.Forest.{Marks, ChainEnds}
use Rattle.hir_forest.specs.Parents.{HasParents}
use Rattle.hir_forest.proofs.chains.first_cycle.Given as goal

abbrev pub invariant-loop-node : goal.invariant-loop-node
invariant-loop-node l = record {
  marked : (g : List (List ℕ)) → HasParents g l.parents → (c : ℕ) → Marks l.ends c → ChainEnds g c;
  before : (g : List (List ℕ)) → HasParents g l.parents → (c : ℕ) → c < l.node → ChainEnds g c;
}
