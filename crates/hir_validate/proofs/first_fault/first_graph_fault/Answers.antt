use Rattle.std.proofs.Common.{length, subst, arith}
use Rattle.hir_forest.specs.Faults.{forest_fault, IsWithin}
use Rattle.hir_forest.proofs.FaultLemmas.{fault_within}
use Rattle.hir_validate.specs.Nodes.{graph}
use Rattle.hir_validate.specs.Faults.{RootedNodes, nodes_in, ends_of}
use Rattle.hir_validate.proofs.FaultLemmas.{children_in_range, graph-length}
use Rattle.hir_validate.proofs.FirstFaultLemmas.{told_some, told_none}
use Rattle.hir_validate.proofs.first_fault.first_graph_fault.Goals as goal
use Rattle.hir_validate.proofs.first_fault.first_graph_fault.Goals.{In_ok-fault}

pub first_fault-requires-clause-exprs : goal.first_fault-requires-clause-exprs
first_fault-requires-clause-exprs c =
    let s = nodes_in c.args.nodes.now in
    rw c.ends.ensures (omega (arith, c.requires.parents.rows, c.requires.rows, graph-length s))

is_forest_fault : (c : In_ok-fault) → forest_fault (graph (nodes_in c.args.nodes.now)) (ends_of (nodes_in c.args.nodes.now)) c.args.roots.now c.in_ok-fault.field-0
is_forest_fault c = rw c.ends.ensures at (c.in_ok-fault.ensures.fault (graph (nodes_in c.args.nodes.now)) c.requires.parents)

pub tell-requires-clause-within : goal.tell-requires-clause-within
tell-requires-clause-within c =
    let s = nodes_in c.args.nodes.now in
    let within = fault_within (graph s) (ends_of s) c.args.roots.now c.in-Some.fault (children_in_range s c.requires.nodes) (rw c.in-Some.is at (is_forest_fault (goal.at.tell-requires-clause-within c).In_ok-fault)) in
    rw c.sizes.ensures (subst (λ n. IsWithin n (length c.args.roots.now) c.in-Some.fault) (graph-length s) within)

abbrev with_roots : (c : In_ok-fault) → RootedNodes
with_roots c = record { nodes = nodes_in c.args.nodes.now; roots = c.args.roots.now }

pub returns-in-Some-clause-fault : goal.returns-in-Some-clause-fault
returns-in-Some-clause-fault c =
    rw (c.tell.ensures, c.sizes.ensures) (told_some (with_roots (goal.at.returns-in-Some-clause-fault c).In_ok-fault) c.in-Some.fault (rw c.in-Some.is at (is_forest_fault (goal.at.returns-in-Some-clause-fault c).In_ok-fault)))

pub returns-in-None-clause-fault : goal.returns-in-None-clause-fault
returns-in-None-clause-fault c = told_none (with_roots (goal.at.returns-in-None-clause-fault c).In_ok-fault) (rw c.in-None.is at (is_forest_fault (goal.at.returns-in-None-clause-fault c).In_ok-fault))

pub returns-in-None-clause-parents : goal.returns-in-None-clause-parents
returns-in-None-clause-parents c = (rw c.in-None.is at c.in_ok-fault.ensures.parents) (graph (nodes_in c.args.nodes.now)) c.requires.parents
