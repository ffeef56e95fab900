use Rattle.std.proofs.Common.{◌<◌, ◌∷◌, [], List, below_more, length, map, take, subst, arith}
use Rattle.std.proofs.lemmas.List.{length-map, length-take-le, take_all}
use Rattle.hir_validate.specs.internal.Edges.{VisitsNodes}
use Rattle.hir_validate.specs.TestedParts.{TestedParts}
use Rattle.hir_validate.specs.Faults.{nothing_tested}
use Rattle.hir_validate.proofs.EdgeLemmas.{visited_none, visited_both, can_visit_on, tested_more}
use Rattle.hir_validate.proofs.FirstFaultLemmas.{row_of}
use Rattle.hir_validate.proofs.first_fault.first_of.Goals as goal

pub loop-i-init : goal.loop-i-init
loop-i-init g c = record {
  fine = λ j h. absurd (omega arith);
  visited = visited_none c.args.visitor.now c.requires.room.in_range;
}

pub fault_of-requires : goal.fault_of-requires
fault_of-requires g c =
    let parts = g.N.TestedNode.tested_parts in
    let nodes = c.args.nodes.now in
    let i = c.loop-i.i in
    let some = length-take-le i nodes (omega (arith, c.loop-i-test.true)) in
    can_visit_on c.args.visitor.now c.loop-i.visitor (map parts (take i nodes)) (length nodes) 1 c.requires.room c.loop-i.invariant.visited (omega (arith, c.loop-i-test.true, length-map (take i nodes) parts))

pub returns-in-Some-clause-fault : goal.returns-in-Some-clause-fault
returns-in-Some-clause-fault g c =
    let parts = g.N.TestedNode.tested_parts in
    let nodes = c.args.nodes.now in
    let row = row_of parts nothing_tested nodes c.loop-i.i c.index-nodes-i.result c.loop-i-test.true c.index-nodes-i.is in
    let lt : c.loop-i.i < length (map parts nodes) = rw (length-map nodes parts) c.loop-i-test.true in
    (c.loop-i.i, lt, rw (row, ← c.name.ensures, ← c.loop-i.invariant.visited.sizes, ← c.in-Some.is) c.fault_of.ensures.fault, c.loop-i.invariant.fine)

pub loop-i-preserved : goal.loop-i-preserved
loop-i-preserved g c =
    let parts = g.N.TestedNode.tested_parts in
    let nodes = c.args.nodes.now in
    let i = c.loop-i.i in
    let row = row_of parts nothing_tested nodes i c.index-nodes-i.result c.loop-i-test.true c.index-nodes-i.is in
    let now : VisitsNodes c.loop-i.visitor (parts c.index-nodes-i.result ∷ []) c.fault_of.new.visitor = rw c.in_default.is at c.fault_of.ensures.visited in
    record {
      fine = below_more _ _ c.loop-i.invariant.fine (rw (row, ← c.name.ensures, ← c.loop-i.invariant.visited.sizes, ← c.in_default.is) c.fault_of.ensures.fault);
      visited = subst (λ (xs : List TestedParts). VisitsNodes c.args.visitor.now xs c.fault_of.new.visitor) (tested_more parts nodes i c.index-nodes-i.result c.loop-i-test.true c.index-nodes-i.is)
          (visited_both c.args.visitor.now c.loop-i.visitor c.fault_of.new.visitor (map parts (take i nodes)) (parts c.index-nodes-i.result ∷ []) c.loop-i.invariant.visited now);
    }

pub returns : goal.returns
returns g c =
    let parts = g.N.TestedNode.tested_parts in
    let nodes = c.args.nodes.now in
    record {
      fault = λ i h. c.loop-i.invariant.fine i (omega (arith, c.loop-i-test.false, length-map nodes parts));
      visited = rw (take_all c.loop-i.i nodes (omega (arith, c.loop-i-test.false))) at c.loop-i.invariant.visited;
    }
