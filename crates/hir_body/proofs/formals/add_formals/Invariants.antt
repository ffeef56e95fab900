use Rattle.std.proofs.Common.{ℕ, ◌<◌, map, take, None}
use Rattle.hir_node.specs.declared.node_id.NodeId.TheVariants as node
use Rattle.hir_body.specs.Bodies.{formals_of, repeated_fault}
use Rattle.hir_body.specs.internal.Bodies.{GainsAll}
use Rattle.hir_body.proofs.formals.add_formals.Given as goal

abbrev pub invariant-loop-i : goal.invariant-loop-i
invariant-loop-i l = record {
  added : GainsAll l.initial.set (map node.Pat (take l.i (formals_of l.params))) l.set;
  new : (j : ℕ) → j < l.i → repeated_fault (formals_of l.params) j None;
}
