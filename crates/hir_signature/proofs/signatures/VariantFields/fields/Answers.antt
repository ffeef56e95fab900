use Rattle.hir_signature.proofs.SignatureLemmas.{fields_in_range}
use Rattle.hir_signature.proofs.signatures.VariantFields.fields.Goals as goal

pub returns-clause-in_range : goal.returns-clause-in_range
returns-clause-in_range c = fields_in_range c.self.inside.variant c.self.invariant c.args.self.now c.self.view_is c.as_slice.result.now c.as_slice.ensures
