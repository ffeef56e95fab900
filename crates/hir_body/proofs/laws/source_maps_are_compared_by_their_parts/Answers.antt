use Rattle.hir_body.specs.same.SameBodies.{body_maps_decide}
use Rattle.hir_body.proofs.laws.source_maps_are_compared_by_their_parts.Goals as goal

pub returns : goal.returns
returns c = body_maps_decide
