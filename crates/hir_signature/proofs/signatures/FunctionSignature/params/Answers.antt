use Rattle.hir_signature.proofs.SignatureLemmas.{params_in_range}
use Rattle.hir_signature.proofs.signatures.FunctionSignature.params.Goals as goal

pub returns-clause-in_range : goal.returns-clause-in_range
returns-clause-in_range c = params_in_range c.self.inside.function c.self.invariant c.args.self.now c.self.view_is c.as_slice.result.now c.as_slice.ensures
