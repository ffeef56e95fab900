use Rattle.std.proofs.Common.{Bool, List, ⊎_elim, refl, sym, subst, ◌∙◌, arith, below_more}
use Rattle.std.proofs.lemmas.Bool.{false≢true}
use Rattle.hir_forest.specs.Forest.{Marks}
use Rattle.hir_forest.proofs.ChainLemmas.{ends_on_chain}
use Rattle.hir_forest.proofs.chains.first_cycle.Goals as goal
use Rattle.hir_forest.proofs.chains.first_cycle.Goals.{then-not-ends-node+else-not-chain_ends, else-not-ends-node}

pub loop-node-init : goal.loop-node-init
loop-node-init c = record {
  marked = λ g h. c.mark_down-2.ensures.ends g h (c.mark_down.ensures.ends g h (λ n m. absurd (omega (arith, ((c.requires.none n).0 m).1))));
  before = λ g h n lt. absurd (omega arith);
}

pub returns-then-not-chain_ends : goal.returns-then-not-chain_ends
returns-then-not-chain_ends c = λ g h. (
  c.loop-node.node,
  omega (arith, c.loop-node-test.true, c.len-node-end.ensures, h.nodes),
  (refl, λ ends. false≢true (sym c.if-not-chain_ends.true ∙ (c.chain_ends.ensures g h (c.loop-node.invariant.marked g h)).1 ends)),
  λ j lt. c.loop-node.invariant.before g h j lt,
)

pub loop-node-preserved : goal.loop-node-preserved
loop-node-preserved c = elim c.if-not-ends-node.branch [
  | then-not-ends-node+else-not-chain_ends w ↦ record {
    marked = λ g h n m.
        let ends = (w.chain_ends.ensures g h (c.loop-node.invariant.marked g h)).0 w.if-not-chain_ends.false in
        ⊎_elim (λ old. c.loop-node.invariant.marked g h n old) (λ u. ends_on_chain g c.args.parents.now h c.loop-node.node n u ends)
        (w.mark_chain.ensures.fresh g h n (subst (λ (t : List Bool). Marks t n) w.ends-is m));
    before = λ g h.
        let ends = (w.chain_ends.ensures g h (c.loop-node.invariant.marked g h)).0 w.if-not-chain_ends.false in
        below_more _ _ (c.loop-node.invariant.before g h) ends;
  }
  | else-not-ends-node w ↦ record {
    marked = λ g h n m. c.loop-node.invariant.marked g h n (subst (λ (t : List Bool). Marks t n) w.ends-is m);
    before = λ g h. below_more _ _ (c.loop-node.invariant.before g h) (c.loop-node.invariant.marked g h c.loop-node.node w.if-not-ends-node.false);
  }
]

pub returns : goal.returns
returns c = λ g h n lt. c.loop-node.invariant.before g h n (omega (arith, c.loop-node-test.false, c.len-node-end.ensures, h.nodes))
