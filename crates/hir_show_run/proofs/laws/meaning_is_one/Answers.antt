use Rattle.hir_show_run.proofs.MeaningLemmas.{IsMeaning-one}
use Rattle.hir_show_run.proofs.laws.meaning_is_one.Goals as goal

pub returns : goal.returns
returns c =
    IsMeaning-one c.first_fault_unique.ensures c.first_body_fault_unique.ensures c.a_reached_node_has_one_chain.ensures.bodies c.captures_unique.ensures
