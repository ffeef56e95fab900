use Rattle.hir_body.proofs.BodyLemmas.{body_fault-one}
use Rattle.hir_body.proofs.laws.first_body_fault_unique.Goals as goal

pub returns : goal.returns
returns c = body_fault-one
