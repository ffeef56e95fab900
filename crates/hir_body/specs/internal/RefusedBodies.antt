-- The parts that the refusal of a body gives back.
use Rattle.hir_body.specs.Prelude.{List, Option, PatId, BindingId, Contents}
use Rattle.hir_body.specs.declared.body.RefusedBody.{RefusedBody}
use Rattle.hir_body.specs.declared.body_fault.BodyFault.{BodyFault}
use Rattle.hir_body.specs.declared.formals.Param.{Param}

-- the fault, and the parts as they were
abbrev pub refused_body : BodyFault → Contents → List (Param PatId) → Option (Param BindingId) → RefusedBody
refused_body fault store params self_param =
    record { fault = fault; store = store; params = params; self_param = self_param }
