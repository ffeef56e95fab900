use Rattle.hir_signature.proofs.SignatureLemmas.{ret_type_in_range}
use Rattle.hir_signature.proofs.signatures.FunctionSignature.ret_type.Goals as goal

pub returns-clause-in_range : goal.returns-clause-in_range
returns-clause-in_range c = ret_type_in_range c.self.inside.function c.self.invariant c.args.self.now c.self.view_is
