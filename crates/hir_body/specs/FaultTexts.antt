-- The texts of the faults of bodies: the name, and after a space the index of a parameter.
use Rattle.std.specs.Prelude.{◌++◌}
use Rattle.hir_body.specs.Prelude.{ℕ, List, codes, decimal}
use Rattle.hir_body.specs.declared.body_fault.BodyFault.{BodyFault}
use Rattle.hir_body.specs.declared.body_fault.BodyFault.TheVariants as body

abbrev pub body_fault_text : BodyFault → List ℕ
body_fault_text body.NoRoot = codes "NoRoot"
body_fault_text body.SelfOutOfRange = codes "SelfOutOfRange"
body_fault_text (body.ParamOutOfRange i) = codes "ParamOutOfRange " ++ decimal i
body_fault_text (body.ParamRepeated i) = codes "ParamRepeated " ++ decimal i
body_fault_text (body.ParamUnder i) = codes "ParamUnder " ++ decimal i
body_fault_text body.RootInParam = codes "RootInParam"
body_fault_text body.Memory = codes "Memory"
