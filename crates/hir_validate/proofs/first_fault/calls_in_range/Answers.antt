use Rattle.std.proofs.Common.{refl, ◌∙◌, arith}
use Rattle.hir_validate.specs.declared.edges.EdgeVisitor.{EdgeVisitor}
use Rattle.hir_validate.proofs.EdgeLemmas.{may_note, noted_all, visited_one}
use Rattle.hir_validate.proofs.first_fault.calls_in_range.Goals as goal

pub begin_row-requires : goal.begin_row-requires
begin_row-requires g c = let rows = c.requires.rows in omega arith

pub visit-requires : goal.visit-requires
visit-requires g c =
    let v = c.args.visitor.now in
    let begun : EdgeVisitor = record { sizes = v.sizes; parents = c.begin_row.new.self; all_in_range = v.all_in_range } in
    may_note _ (λ v call can. can) _ begun
    (record { few = c.requires.room.few; nodes = c.begin_row.ensures.room ∙ c.requires.room.nodes }, omega (arith, c.begin_row.ensures.rows))

pub returns : goal.returns
returns g c =
    let v = c.args.visitor.now in
    let begun : EdgeVisitor = record { sizes = v.sizes; parents = c.begin_row.new.self; all_in_range = v.all_in_range } in
    let x = g.N.TestedNode.tested_parts c.args.node.now in
    let noted = noted_all c.visit.ensures in
    record {
      in_range = noted.in_range ∙ (rw c.requires.in_range refl);
      sizes = noted.sizes;
      visited = λ t. visited_one v begun c.visit.new.visitor x c.requires.in_range refl refl c.begin_row.ensures.rows c.begin_row.ensures.room c.begin_row.ensures.noted noted t;
    }
