use Rattle.hir_body.proofs.BodySound.{body_entry_nodes_apart}
use Rattle.hir_body.proofs.laws.entry_nodes_are_disjoint.Goals as goal

pub returns : goal.returns
returns c = λ b sound none. body_entry_nodes_apart b (c.roots_stand_apart.ensures b.store sound) none (c.under_two_is_under_one.ensures b.store sound)
