use Rattle.hir_pretty_docs.proofs.Common.{adds_then}
use Rattle.hir_pretty.proofs.structs.add_repr.Goals as goal

pub returns-in-Some : goal.returns-in-Some
returns-in-Some c = rw c.in-Some.is (adds_then (adds_then c.add_attribute_if.ensures c.add_bytes.ensures) c.add_bytes-in-Some.ensures)
