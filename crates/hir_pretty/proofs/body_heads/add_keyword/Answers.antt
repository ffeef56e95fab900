use Rattle.hir_pretty_docs.proofs.Common.{refl, adds, adds_then}
use Rattle.hir_pretty.proofs.body_heads.add_keyword.Goals as goal

pub returns : goal.returns
returns c = adds_then (adds c.add.ensures (λ s. refl)) c.add_named.ensures
