use Rattle.std.proofs.Common.{ℕ, List}
use Rattle.hir_forest.specs.Forest.{ChainEnds, Marks}
use Rattle.hir_forest.specs.Parents.{HasParents}
use Rattle.hir_forest.proofs.chains.mark_down.Given as goal

abbrev pub invariant-loop-node : goal.invariant-loop-node
invariant-loop-node l = (g : List (List ℕ)) → HasParents g l.parents → ((c : ℕ) → Marks l.fn.ends c → ChainEnds g c) → (c : ℕ) → Marks l.ends c → ChainEnds g c
