use Rattle.hir_pretty_docs.proofs.Common.{refl, adds, adds_then}
use Rattle.hir_pretty_docs.proofs.tokens.Tokens.add_keyword.Goals as goal

pub returns : goal.returns
returns c = adds_then (adds c.add.ensures (λ s. refl)) c.add_operand.ensures
