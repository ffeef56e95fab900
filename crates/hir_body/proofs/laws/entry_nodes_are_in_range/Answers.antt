use Rattle.hir_body.proofs.BodySound.{body_entry_nodes_in_range}
use Rattle.hir_body.proofs.laws.entry_nodes_are_in_range.Goals as goal

pub returns : goal.returns
returns c = λ b sound. body_entry_nodes_in_range b (c.roots_stand_apart.ensures b.store sound)
