use Rattle.hir_pretty_docs.proofs.Common.{adds_then, adds_more}
use Rattle.hir_pretty.proofs.body_heads.add_variant_name.Goals as goal

pub returns-in-Ok : goal.returns-in-Ok
returns-in-Ok c = rw c.in-Ok.ensures.found (adds_then (adds_more c.add_keyword.ensures c.add.ensures) c.add_named.ensures)
