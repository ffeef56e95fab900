use Rattle.std.proofs.Common.{ℕ, ◌<◌, None, map, take, get_or}
use Rattle.hir_validate.specs.internal.Edges.{VisitsNodes}
use Rattle.hir_validate.specs.Faults.{node_fault, nothing_tested}
use Rattle.hir_validate.proofs.first_fault.first_of.Given as goal

-- the nodes so far have no fault, and were visited
abbrev pub invariant-loop-i : goal.invariant-loop-i
invariant-loop-i g l = record {
  fine : (j : ℕ) → j < l.i → node_fault l.fn.visitor.sizes l.types (g.N.TestedNode.name j) (get_or (map g.N.TestedNode.tested_parts l.nodes) j nothing_tested) None;
  visited : VisitsNodes l.fn.visitor (map g.N.TestedNode.tested_parts (take l.i l.nodes)) l.visitor;
}
