use Rattle.hir_body.specs.Bodies.{body_of}
use Rattle.hir_body.proofs.BodySound.{params_in_range}
use Rattle.hir_body.proofs.body.Body.params.Goals as goal

pub returns-clause-in_range : goal.returns-clause-in_range
returns-clause-in_range c =
    let b = body_of c.self.inside.store c.self.inside.params c.self.inside.self_param in
    params_in_range b c.self.invariant c.args.self.now c.self.view_is c.as_slice.result.now c.as_slice.ensures
