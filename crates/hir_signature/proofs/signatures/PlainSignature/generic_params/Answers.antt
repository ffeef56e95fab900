use Rattle.std.proofs.Common.{refl}
use Rattle.hir_signature.proofs.SignatureLemmas.{plain_generics_fit}
use Rattle.hir_signature.proofs.signatures.PlainSignature.generic_params.Goals as goal

pub returns-clause-in_range : goal.returns-clause-in_range
returns-clause-in_range c = plain_generics_fit c.self.inside.plain c.self.invariant c.args.self.now c.self.view_is c.self.inside.plain.generic_params refl
