use Rattle.std.proofs.Common.{◌≡◌, ◌⊎◌, inl, inr, Err, Some, refl}
use Rattle.std.proofs.lemmas.Result.{err_from_is_err_and}
use Rattle.hir_body.specs.declared.body_fault.BodyFault.{BodyFault}
use Rattle.hir_body.specs.declared.body_fault.BodyFault.TheVariants as body
use Rattle.hir_body.specs.Bodies.{BodyContents, body_of, body_fault}
use Rattle.hir_show_run.specs.Faults.{fault_of_body}
use Rattle.hir_show_run.specs.internal.Stages.{IsBodyOf}
use Rattle.hir_show_run.proofs.program.body_of_parts.Goals as goal

-- how a run ends where the parts are refused
fault_ends : (fault : BodyFault) (parts : BodyContents) → fault ≡ body.Memory ⊎ body_fault parts (Some fault) → IsBodyOf parts (Err (fault_of_body fault))
fault_ends fault parts (inl e) = rw e tt
fault_ends body.Memory parts (inr p) = tt
fault_ends body.NoRoot parts (inr p) = (body.NoRoot, refl, p)
fault_ends body.SelfOutOfRange parts (inr p) = (body.SelfOutOfRange, refl, p)
fault_ends (body.ParamOutOfRange index) parts (inr p) = (body.ParamOutOfRange index, refl, p)
fault_ends (body.ParamRepeated index) parts (inr p) = (body.ParamRepeated index, refl, p)
fault_ends (body.ParamUnder index) parts (inr p) = (body.ParamUnder index, refl, p)
fault_ends body.RootInParam parts (inr p) = (body.RootInParam, refl, p)

pub returns-in_err-new : goal.returns-in_err-new
returns-in_err-new c =
    let p = err_from_is_err_and c.from_residual.result c.from_residual.ensures.1 in
    rw (p.1, p.2) (fault_ends c.in_err-new.field-0.0.fault (body_of c.args.store c.args.params c.args.self_param) c.in_err-new.ensures.fault)
