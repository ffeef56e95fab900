use Rattle.hir_pretty_docs.proofs.Common.{adds_then, adds_more}
use Rattle.hir_pretty.proofs.generics.add_predicate.Goals as goal

pub returns-in-TypeBound : goal.returns-in-TypeBound
returns-in-TypeBound c = rw c.in-TypeBound.is (adds_then (adds_more c.add_binder.ensures c.add.ensures) c.add_to.ensures)

pub returns-in-Lifetime : goal.returns-in-Lifetime
returns-in-Lifetime c = rw c.in-Lifetime.is (adds_then (adds_more c.add_to-in-Lifetime.ensures c.add-in-Lifetime.ensures) c.add_to-in-Lifetime-2.ensures)
