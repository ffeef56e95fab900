use Rattle.std.proofs.Common.{ℕ, ◌↔◌, List}
use Rattle.std.specs.Prelude.{IsTrue, count_by, not}
use Rattle.hir_forest.specs.Forest.{LiesUnderMarked}
use Rattle.hir_forest.specs.Parents.{HasParents}
use Rattle.hir_forest.specs.internal.Parents.{AreKnown}
use Rattle.hir_forest.proofs.ChainLemmas.{MarksWay}
use Rattle.hir_forest.proofs.under.note_chain.Given as goal

abbrev pub invariant-loop-known : goal.invariant-loop-known
invariant-loop-known l = record {
  way : MarksWay l.parents l.node l.at l.fn.known l.known;
  answer : (g : List (List ℕ)) → HasParents g l.parents → IsTrue l.is_under ↔ LiesUnderMarked g l.marked l.node → IsTrue l.is_under ↔ LiesUnderMarked g l.marked l.at;
  right : (g : List (List ℕ)) → HasParents g l.parents → IsTrue l.is_under ↔ LiesUnderMarked g l.marked l.node → AreKnown g l.marked l.fn.known l.fn.under → AreKnown g l.marked l.known l.under;
}

abbrev pub decreases-loop-known : goal.decreases-loop-known
decreases-loop-known l = count_by not l.known
