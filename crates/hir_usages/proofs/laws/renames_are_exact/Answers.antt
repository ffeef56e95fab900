use Rattle.hir_usages.specs.Renamed.{renamed_body}
use Rattle.hir_usages.proofs.ConflictLemmas.{no_fault_exactly, fault_is_why}
use Rattle.hir_usages.proofs.StoreLemmas.{contents_kept, body_kept}
use Rattle.hir_usages.proofs.laws.renames_are_exact.Goals as goal

pub returns-clause-accepted : goal.returns-clause-accepted
returns-clause-accepted c = λ b sound fine scopes are binding name.
    no_fault_exactly b binding name scopes are (c.rank_decreases.ensures b.store sound) (c.one_parent.ensures b.store sound)
    (λ x f g. c.a_reached_node_has_one_chain.ensures.bodies (renamed_body b scopes binding name)
    (contents_kept b binding name scopes sound) (body_kept b binding name scopes fine) x f g)

pub returns-clause-refused : goal.returns-clause-refused
returns-clause-refused c = λ b sound fine scopes are binding name fault is.
    fault_is_why b binding name scopes are (c.rank_decreases.ensures b.store sound) (c.one_parent.ensures b.store sound)
    (λ x f g. c.a_reached_node_has_one_chain.ensures.bodies (renamed_body b scopes binding name)
    (contents_kept b binding name scopes sound) (body_kept b binding name scopes fine) x f g)
    fault is
