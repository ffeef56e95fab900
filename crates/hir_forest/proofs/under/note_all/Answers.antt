use Rattle.std.proofs.Common.{◌<◌, length, List, Bool, sym, subst, arith, below_more}
use Rattle.hir_forest.specs.Forest.{Marks}
use Rattle.hir_forest.specs.internal.Parents.{AreKnown}
use Rattle.hir_forest.proofs.under.note_all.Goals as goal
use Rattle.hir_forest.proofs.under.note_all.Goals.{then-not-known-node, else-not-known-node}

pub loop-node-init : goal.loop-node-init
loop-node-init c = record {
  before = λ n lt. absurd (omega arith);
  right = λ g h ends n m. absurd (omega (arith, ((c.requires.none n).0 m).1));
}

pub loop-node-preserved : goal.loop-node-preserved
loop-node-preserved c = elim c.if-not-known-node.branch [
  | then-not-known-node w ↦ record {
    before = λ n lt. subst (λ (t : List Bool). Marks t n) (sym w.known-is) (below_more _ _ (λ k low. w.note_chain.ensures.stays k (c.loop-node.invariant.before k low)) w.note_chain.ensures.node n lt);
    right = λ g h ends.
        let here : c.loop-node.node < length g = omega (arith, c.loop-node-test.true, c.len-node-end.ensures, h.nodes) in
        let old = c.loop-node.invariant.right g h ends in
        rw (w.known-is, w.under-is) (w.note_chain.ensures.known g h (w.is_under_marked-is_under.ensures g h (ends c.loop-node.node here) old) old);
  }
  | else-not-known-node w ↦ record {
    before = rw w.known-is (below_more _ _ c.loop-node.invariant.before w.if-not-known-node.false);
    right = rw (w.known-is, w.under-is) c.loop-node.invariant.right;
  }
]

pub returns : goal.returns
returns c = λ g h ends n lt. c.loop-node.invariant.right g h ends n (c.loop-node.invariant.before n (omega (arith, c.loop-node-test.false, c.len-node-end.ensures, h.nodes)))
