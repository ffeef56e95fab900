use Rattle.hir_pretty_docs.proofs.Common.{adds_then, adds_more}
use Rattle.hir_pretty.proofs.fields.add_field.Goals as goal

pub returns : goal.returns
returns c = adds_more (adds_then c.add_visibility.ensures c.add_if.ensures) (rw c.as_str.ensures at c.add.ensures)
