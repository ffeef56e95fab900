use Rattle.std.proofs.Common.{◌≡◌, length}
use Rattle.test_leaves.proofs.edges.add_chain.Given as goal

abbrev pub invariant-loop-node : goal.invariant-loop-node
invariant-loop-node l = record {
  nodes : length l.parents.parents ≡ length l.fn.parents.parents;
  rows : l.parents.rows ≡ l.node;
}
