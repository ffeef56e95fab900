use Rattle.std.proofs.Common.{sym, ap, ◌∙◌}
use Rattle.hir_validate.specs.TestedParts.{names_paths, gives_self, lists_fit}
use Rattle.hir_validate.proofs.FirstFaultLemmas.{fault-paths, fault-return, fault-self, fault-lists, fault-none}
use Rattle.hir_validate.proofs.first_fault.held_fault.Goals as goal

pub returns-then-not-names_paths : goal.returns-then-not-names_paths
returns-then-not-names_paths g c = λ sizes in_range.
    fault-paths sizes c.args.types.now c.args.id (g.N.TestedNode.tested_parts c.args.node.now)
    in_range
    (sym (ap (names_paths c.args.types.now) c.type_parts-held.ensures) ∙ sym c.names_paths.ensures ∙ c.if-not-names_paths.true)

pub returns-then-not-returns : goal.returns-then-not-returns
returns-then-not-returns g c = λ sizes in_range.
    fault-return sizes c.args.types.now c.args.id (g.N.TestedNode.tested_parts c.args.node.now)
    in_range
    (sym (ap (names_paths c.args.types.now) c.type_parts-held.ensures) ∙ sym c.names_paths.ensures ∙ c.if-not-names_paths.false)
    (sym c.returns.ensures ∙ c.if-not-returns.true)

pub returns-then-not-gives_self : goal.returns-then-not-gives_self
returns-then-not-gives_self g c = λ sizes in_range.
    fault-self sizes c.args.types.now c.args.id (g.N.TestedNode.tested_parts c.args.node.now)
    in_range
    (sym (ap (names_paths c.args.types.now) c.type_parts-held.ensures) ∙ sym c.names_paths.ensures ∙ c.if-not-names_paths.false)
    (sym c.returns.ensures ∙ c.if-not-returns.false)
    (sym (ap gives_self c.type_parts-held.ensures) ∙ sym c.gives_self.ensures ∙ c.if-not-gives_self.true)

pub returns-then-not-lists_fit : goal.returns-then-not-lists_fit
returns-then-not-lists_fit g c = λ sizes in_range.
    fault-lists sizes c.args.types.now c.args.id (g.N.TestedNode.tested_parts c.args.node.now)
    in_range
    (sym (ap (names_paths c.args.types.now) c.type_parts-held.ensures) ∙ sym c.names_paths.ensures ∙ c.if-not-names_paths.false)
    (sym c.returns.ensures ∙ c.if-not-returns.false)
    (sym (ap gives_self c.type_parts-held.ensures) ∙ sym c.gives_self.ensures ∙ c.if-not-gives_self.false)
    (sym (ap lists_fit c.type_parts-held.ensures) ∙ sym c.lists_fit.ensures ∙ c.if-not-lists_fit.true)

pub returns : goal.returns
returns g c = λ sizes in_range.
    fault-none sizes c.args.types.now c.args.id (g.N.TestedNode.tested_parts c.args.node.now)
    in_range
    (sym (ap (names_paths c.args.types.now) c.type_parts-held.ensures) ∙ sym c.names_paths.ensures ∙ c.if-not-names_paths.false)
    (sym c.returns.ensures ∙ c.if-not-returns.false)
    (sym (ap gives_self c.type_parts-held.ensures) ∙ sym c.gives_self.ensures ∙ c.if-not-gives_self.false)
    (sym (ap lists_fit c.type_parts-held.ensures) ∙ sym c.lists_fit.ensures ∙ c.if-not-lists_fit.false)
