use Rattle.hir_pretty_docs.proofs.Common.{refl, adds, adds_then, adds_more}
use Rattle.hir_pretty_docs.proofs.types.TypeBoundPart.add_to.Goals as goal

pub returns-in-Use : goal.returns-in-Use
returns-in-Use c = rw c.in-Use.is (adds_more (adds_then (adds c.add-in-Use.ensures (λ s. refl))
    (rw c.as_slice-in-Use.ensures at c.add_joined.ensures)) c.add-in-Use-2.ensures)
