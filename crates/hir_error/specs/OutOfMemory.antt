-- Which errors say that an allocation failed.
use Rattle.std.specs.Prelude.{◌≡◌}
use Rattle.hir_collections.specs.declared.arena.ArenaFault.TheVariants as arena
use Rattle.hir_validate.specs.declared.fault.FinishFault.TheVariants as finish
use Rattle.hir_body.specs.declared.body_fault.BodyFault.TheVariants as body
use Rattle.hir_signature.specs.declared.signature_fault.SignatureFault.TheVariants as signature
use Rattle.hir_scope.specs.declared.fault.ScopesFault.TheVariants as scopes
use Rattle.hir_pretty_nodes.specs.declared.fault.PrintFault.TheVariants as print
use Rattle.hir_captures.specs.declared.fault.CapturesFault.TheVariants as captures
use Rattle.hir_usages.specs.declared.rename_fault.RenameFault.TheVariants as rename
use Rattle.hir_error.specs.declared.error.HirError.{HirError}
use Rattle.hir_error.specs.declared.error.HirError.TheVariants as error

-- the refusal that the error is of is a failed allocation; an id that doesn't exist, a missing definition and
-- a path with too many or too few lists never are
abbrev pub IsOutOfMemory : HirError → Type 0
IsOutOfMemory (error.Arena fault) = fault ≡ arena.Memory
IsOutOfMemory (error.Store fault) = fault ≡ finish.Memory
IsOutOfMemory (error.IdOutOfRange node named) = ⊥
IsOutOfMemory (error.Body fault) = fault ≡ body.Memory
IsOutOfMemory (error.Signature fault) = fault ≡ signature.Memory
IsOutOfMemory (error.Missing definition) = ⊥
IsOutOfMemory (error.Scopes fault) = fault ≡ scopes.Memory
IsOutOfMemory (error.Print fault) = fault ≡ print.Memory
IsOutOfMemory (error.Captures fault) = fault ≡ captures.Memory
IsOutOfMemory (error.Rename fault) = fault ≡ rename.Memory
IsOutOfMemory (error.ArgumentLists segments lists) = ⊥
