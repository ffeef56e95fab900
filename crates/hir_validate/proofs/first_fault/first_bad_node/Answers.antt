use Rattle.std.proofs.Common.{◌++◌, length, map, ◌∙◌, arith}
use Rattle.std.proofs.lemmas.List.{length-append, length-map}
use Rattle.hir_validate.specs.Faults.{nodes_in}
use Rattle.hir_validate.specs.TestedParts.{tested_expr, tested_pat, tested_type}
use Rattle.hir_validate.specs.internal.Edges.{VisitsNodes, all_tested}
use Rattle.hir_validate.proofs.EdgeLemmas.{all_count, can_visit_less, can_visit_on, visited_both, if_none_so}
use Rattle.hir_validate.proofs.FirstFaultLemmas.{bad_expr, bad_pat, bad_type}
use Rattle.hir_validate.proofs.first_fault.first_bad_node.Goals as goal
use Rattle.hir_validate.proofs.first_fault.first_bad_node.Goals.{In_default, In_default-first_of}

pub first_of-requires-clause-room : goal.first_of-requires-clause-room
first_of-requires-clause-room c =
    let s = nodes_in c.args.nodes.now in
    can_visit_less c.args.visitor.now (length (all_tested s)) (length s.exprs) c.requires.room (omega (arith, all_count s))

pub returns-in-Some-clause-fault : goal.returns-in-Some-clause-fault
returns-in-Some-clause-fault c = bad_expr (nodes_in c.args.nodes.now) c.in-Some.fault (rw c.requires.sizes at c.in-Some.ensures.fault)

-- after the expressions, and after the patterns
after_exprs : (c : In_default) → VisitsNodes c.args.visitor.now (map tested_expr c.args.nodes.now.exprs.now) c.first_of.new.visitor
after_exprs c = c.in_default.ensures.visited

after_pats : (c : In_default-first_of) → VisitsNodes c.args.visitor.now (map tested_expr c.args.nodes.now.exprs.now ++ map tested_pat c.args.nodes.now.pats.now) c.first_of-2.new.visitor
after_pats c = visited_both c.args.visitor.now c.first_of.new.visitor c.first_of-2.new.visitor (map tested_expr c.args.nodes.now.exprs.now) (map tested_pat c.args.nodes.now.pats.now) c.in_default.ensures.visited c.in_default-first_of.ensures.visited

pub first_of-requires-2-clause-room : goal.first_of-requires-2-clause-room
first_of-requires-2-clause-room c =
    let s = nodes_in c.args.nodes.now in
    can_visit_on c.args.visitor.now c.first_of.new.visitor (map tested_expr s.exprs) (length (all_tested s)) (length s.pats) c.requires.room (after_exprs (goal.at.first_of-requires-2-clause-room c).In_default)
    (omega (arith, all_count s, length-map s.exprs tested_expr))

pub first_of-requires-3-clause-room : goal.first_of-requires-3-clause-room
first_of-requires-3-clause-room c =
    let s = nodes_in c.args.nodes.now in
    can_visit_on c.args.visitor.now c.first_of-2.new.visitor (map tested_expr s.exprs ++ map tested_pat s.pats) (length (all_tested s)) (length s.types) c.requires.room (after_pats (goal.at.first_of-requires-3-clause-room c).In_default-first_of)
    (omega (arith, all_count s, length-append (map tested_expr s.exprs) (map tested_pat s.pats), length-map s.exprs tested_expr, length-map s.pats tested_pat))

pub returns-in-Some-first_of-clause-fault : goal.returns-in-Some-first_of-clause-fault
returns-in-Some-first_of-clause-fault c =
    let first = c.in_default.ensures.visited.sizes ∙ c.requires.sizes in
    bad_pat (nodes_in c.args.nodes.now) c.in-Some-first_of.fault (rw c.requires.sizes at c.in_default.ensures.fault) (rw first at c.in-Some-first_of.ensures.fault)

pub returns : goal.returns
returns c =
    let s = nodes_in c.args.nodes.now in
    let first = c.in_default.ensures.visited.sizes ∙ c.requires.sizes in
    let second = (after_pats (goal.at.returns c).In_default-first_of).sizes ∙ c.requires.sizes in
    record {
      fault = bad_type s c.first_of-3.result (rw c.requires.sizes at c.in_default.ensures.fault) (rw first at c.in_default-first_of.ensures.fault) (rw second at c.first_of-3.ensures.fault);
      visited = if_none_so c.first_of-3.result _ _
          (λ last. visited_both c.args.visitor.now c.first_of-2.new.visitor c.first_of-3.new.visitor (map tested_expr s.exprs ++ map tested_pat s.pats) (map tested_type s.types) (after_pats (goal.at.returns c).In_default-first_of) last)
          c.first_of-3.ensures.visited;
    }
