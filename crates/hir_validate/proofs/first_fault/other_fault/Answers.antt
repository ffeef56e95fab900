use Rattle.std.proofs.Common.{sym, ap, ◌∙◌}
use Rattle.hir_validate.specs.TestedParts.{names_paths, gives_self, lists_fit}
use Rattle.hir_validate.proofs.FirstFaultLemmas.{fault-none}
use Rattle.hir_validate.proofs.first_fault.other_fault.Goals as goal

pub returns-then-returns : goal.returns-then-returns
returns-then-returns g c = λ sizes in_range.
    let fine = c.is_plain.ensures c.if-is_plain.true in
    fault-none sizes c.args.types.now c.args.id (g.N.TestedNode.tested_parts c.args.node.now)
    in_range
    (sym (ap (names_paths c.args.types.now) c.type_parts.ensures) ∙ fine.paths c.args.types.now)
    (sym c.returns.ensures ∙ c.if-returns.true)
    (sym (ap gives_self c.type_parts.ensures) ∙ fine.gives_self)
    (sym (ap lists_fit c.type_parts.ensures) ∙ fine.lists_fit)

pub returns : goal.returns
returns g c = c.held_fault.ensures
