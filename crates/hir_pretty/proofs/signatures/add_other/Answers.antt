use Rattle.hir_pretty_docs.proofs.Common.{refl, adds, adds_then}
use Rattle.hir_pretty.proofs.signatures.add_other.Goals as goal

pub returns : goal.returns
returns c = adds_then (adds c.add.ensures (λ s. refl)) c.add_numbered.ensures
