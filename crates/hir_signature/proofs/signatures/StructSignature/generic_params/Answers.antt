use Rattle.std.proofs.Common.{refl}
use Rattle.hir_signature.proofs.SignatureLemmas.{struct_generics_fit}
use Rattle.hir_signature.proofs.signatures.StructSignature.generic_params.Goals as goal

pub returns-clause-in_range : goal.returns-clause-in_range
returns-clause-in_range c = struct_generics_fit c.self.inside.structure c.self.invariant c.args.self.now c.self.view_is c.self.inside.structure.generic_params refl
