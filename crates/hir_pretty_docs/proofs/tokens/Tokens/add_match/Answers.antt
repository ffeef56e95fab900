use Rattle.hir_pretty_docs.proofs.Common.{refl, adds, adds_then, adds_more}
use Rattle.hir_pretty_docs.proofs.tokens.Tokens.add_match.Goals as goal

pub returns : goal.returns
returns c = adds_more (adds_then (adds c.add.ensures (λ s. refl)) c.add_each.ensures) c.add-2.ensures
