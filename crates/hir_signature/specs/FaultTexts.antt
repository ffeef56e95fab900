-- The texts of the faults of signatures: their names.
use Rattle.std.specs.Prelude.{ℕ, List, codes}
use Rattle.hir_signature.specs.declared.signature_fault.SignatureFault.{SignatureFault}
use Rattle.hir_signature.specs.declared.signature_fault.SignatureFault.TheVariants as signature

abbrev pub signature_fault_text : SignatureFault → List ℕ
signature_fault_text signature.IdOutOfRange = codes "IdOutOfRange"
signature_fault_text signature.NotAPath = codes "NotAPath"
signature_fault_text signature.Memory = codes "Memory"
