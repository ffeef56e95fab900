use Rattle.std.proofs.Common.{refl}
use Rattle.hir_signature.proofs.SignatureLemmas.{function_generics_fit}
use Rattle.hir_signature.proofs.signatures.FunctionSignature.generic_params.Goals as goal

pub returns-clause-in_range : goal.returns-clause-in_range
returns-clause-in_range c = function_generics_fit c.self.inside.function c.self.invariant c.args.self.now c.self.view_is c.self.inside.function.generic_params refl
