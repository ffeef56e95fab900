use Rattle.hir_pretty_docs.proofs.Common.{refl, adds, adds_then}
use Rattle.hir_pretty_docs.proofs.tokens.Tokens.add_after.Goals as goal

pub returns-in-Some : goal.returns-in-Some
returns-in-Some g c = rw c.in-Some.is (adds_then (adds c.add.ensures (λ s. refl)) c.add_to.ensures)
