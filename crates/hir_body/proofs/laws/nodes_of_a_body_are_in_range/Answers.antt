use Rattle.hir_body.specs.Bodies.{entry_nodes}
use Rattle.hir_body.proofs.laws.nodes_of_a_body_are_in_range.Goals as goal

pub returns : goal.returns
returns c = λ b sound none. c.reached_nodes_are_in_range.ensures b.store sound (entry_nodes b) (c.entry_nodes_are_in_range.ensures b sound none)
