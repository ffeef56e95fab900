use Rattle.hir_body.specs.Bodies.{entry_nodes}
use Rattle.hir_body.proofs.laws.what_a_body_reaches_is_listed.Goals as goal

pub returns-clause-listed : goal.returns-clause-listed
returns-clause-listed c = λ b sound. c.reached_is_listed.ensures b.store sound (entry_nodes b)

pub returns-clause-once : goal.returns-clause-once
returns-clause-once c = λ b sound none. c.reached_is_listed_once.ensures b.store sound (entry_nodes b) (c.entry_nodes_are_disjoint.ensures b sound none)

pub returns-clause-decided : goal.returns-clause-decided
returns-clause-decided c = λ b sound. c.reached_is_decided.ensures b.store sound (entry_nodes b)
