use Rattle.std.proofs.Common.{◌≡◌, ◌+◌, length}
use Rattle.test_leaves.proofs.edges.add_row.Given as goal

abbrev pub invariant-loop-edge : goal.invariant-loop-edge
invariant-loop-edge l = record {
  nodes : length l.parents.parents ≡ l.count;
  rows : l.parents.rows ≡ l.fn.parents.rows + 1;
}
