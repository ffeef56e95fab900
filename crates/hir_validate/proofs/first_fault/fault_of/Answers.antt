use Rattle.std.proofs.Common.{sym, ◌∙◌}
use Rattle.hir_validate.proofs.EdgeLemmas.{if_none}
use Rattle.hir_validate.proofs.FirstFaultLemmas.{fault-ids}
use Rattle.hir_validate.proofs.first_fault.fault_of.Goals as goal

pub returns-then-not-ids_in_range-clause-fault : goal.returns-then-not-ids_in_range-clause-fault
returns-then-not-ids_in_range-clause-fault g c =
    fault-ids c.args.visitor.now.sizes c.args.types.now c.args.id (g.N.TestedNode.tested_parts c.args.node.now) (sym c.ids_in_range.ensures.in_range ∙ c.if-not-ids_in_range.true)

pub returns-clause-fault : goal.returns-clause-fault
returns-clause-fault g c = c.other_fault.ensures c.args.visitor.now.sizes (sym c.ids_in_range.ensures.in_range ∙ c.if-not-ids_in_range.false)

pub returns-clause-visited : goal.returns-clause-visited
returns-clause-visited g c = if_none c.other_fault.result _ (c.ids_in_range.ensures.visited c.if-not-ids_in_range.false)
