use Rattle.hir_pretty_docs.proofs.Common.{refl, adds, adds_then, adds_more}
use Rattle.hir_pretty.proofs.fields.add_visibility.Goals as goal

pub returns-in-Module : goal.returns-in-Module
returns-in-Module c = rw c.in-Module.is (adds_more (adds_then (adds c.add.ensures (λ s. refl)) c.add_module.ensures) c.add-in-Module.ensures)
