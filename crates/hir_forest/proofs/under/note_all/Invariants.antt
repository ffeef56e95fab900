use Rattle.std.proofs.Common.{ℕ, ◌<◌, List, length}
use Rattle.hir_forest.specs.Forest.{ChainEnds, Marks}
use Rattle.hir_forest.specs.Parents.{HasParents}
use Rattle.hir_forest.specs.internal.Parents.{AreKnown}
use Rattle.hir_forest.proofs.under.note_all.Given as goal

abbrev pub invariant-loop-node : goal.invariant-loop-node
invariant-loop-node l = record {
  before : (c : ℕ) → c < l.node → Marks l.known c;
  right : (g : List (List ℕ)) → HasParents g l.parents → ((n : ℕ) → n < length g → ChainEnds g n) → AreKnown g l.marked l.known l.under;
}
