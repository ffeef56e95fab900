use Rattle.std.proofs.Common.{◌≡◌, length}
use Rattle.test_leaves.proofs.edges.parents_of.Given as goal

abbrev pub invariant-loop-node : goal.invariant-loop-node
invariant-loop-node l = record {
  nodes : length l.parents.parents ≡ l.count;
  rows : l.parents.rows ≡ l.node;
}
