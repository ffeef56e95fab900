use Rattle.std.proofs.Common.{[], List, ℕ, Some, None, inr, refl, subst, arith}
use Rattle.hir_forest.specs.Parents.{IsParentageOf}
use Rattle.hir_validate.specs.Faults.{RootedNodes, nodes_in}
use Rattle.hir_validate.proofs.EdgeLemmas.{all_rows, all_count}
use Rattle.hir_validate.proofs.FirstFaultLemmas.{bad_node, graph_last}
use Rattle.hir_validate.proofs.first_fault.validated_parents.Goals as goal

pub first_bad_node-requires-clause-room : goal.first_bad_node-requires-clause-room
first_bad_node-requires-clause-room c =
    let s = nodes_in c.args.nodes.now in
    let room = rw c.sizes-sizes.ensures at c.in-Ok.ensures.room in
    record {
      room = record { few = rw c.sizes-sizes.ensures c.requires; nodes = c.in-Ok.ensures.room };
      in_range = refl;
      rows = omega (arith, c.in-Ok.ensures.none.rows, room, all_count s);
    }

pub returns-in-Some-clause-err : goal.returns-in-Some-clause-err
returns-in-Some-clause-err c = inr (bad_node record { nodes = nodes_in c.args.nodes.now; roots = c.args.roots.now } c.in-Some.fault c.in-Some.ensures.fault)

pub first_graph_fault-requires-clause-parents : goal.first_graph_fault-requires-clause-parents
first_graph_fault-requires-clause-parents c =
    let s = nodes_in c.args.nodes.now in
    let children = rw c.sizes-sizes.ensures at (c.in_default-first_bad_node.ensures.visited.children [] c.in-Ok.ensures.none) in
    subst (λ (g : List (List ℕ)). IsParentageOf g c.first_bad_node.new.visitor.parents) (all_rows s) children

pub first_graph_fault-requires-clause-rows : goal.first_graph_fault-requires-clause-rows
first_graph_fault-requires-clause-rows c =
    let s = nodes_in c.args.nodes.now in
    let v = c.in_default-first_bad_node.ensures.visited in
    let sizes = c.sizes-sizes.ensures in
    let room = rw sizes at c.in-Ok.ensures.room in
    omega (arith, v.rows, v.room, c.in-Ok.ensures.none.rows, room, all_count s)

pub returns-in-Ok-None-clause-ok : goal.returns-in-Ok-None-clause-ok
returns-in-Ok-None-clause-ok c =
    let s : RootedNodes = record { nodes = nodes_in c.args.nodes.now; roots = c.args.roots.now } in
    (graph_last s None c.in_default-first_bad_node.ensures.fault (rw c.in-Ok-None.field-0-is at c.in-Ok-None.ensures.fault), rw c.in-Ok-None.field-0-is at c.in-Ok-None.ensures.parents)

pub returns-in-Ok-Some-clause-err : goal.returns-in-Ok-Some-clause-err
returns-in-Ok-Some-clause-err c =
    let s : RootedNodes = record { nodes = nodes_in c.args.nodes.now; roots = c.args.roots.now } in
    inr (graph_last s (Some c.in-Ok-Some.fault) c.in_default-first_bad_node.ensures.fault (rw c.in-Ok-Some.field-0-is at c.in-Ok-Some.ensures.fault))
