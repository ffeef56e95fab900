use Rattle.std.proofs.Common.{sym, ◌∙◌}
use Rattle.hir_body.specs.Bodies.{body_of}
use Rattle.hir_body.proofs.BodySound.{fault_is_at_root, root_below}
use Rattle.hir_body.proofs.body.Body.root_expr.Goals as goal

pub unreachable-requires : goal.unreachable-requires
unreachable-requires c =
    let at = fault_is_at_root (body_of c.self.inside.store c.self.inside.params c.self.inside.self_param) c.self.invariant in
    let e = c.in-None.ensures ∙ at.1 in
    cc

pub returns-clause-in_range : goal.returns-clause-in_range
returns-clause-in_range c =
    let b = body_of c.self.inside.store c.self.inside.params c.self.inside.self_param in
    root_below b c.self.invariant c.args.self.now c.self.view_is (c.roots_stand_apart.ensures b.store c.has_no_fault.ensures) c.in-Some.root (sym c.in-Some.ensures)
