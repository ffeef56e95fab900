use Rattle.hir_pretty_docs.proofs.Common.{adds_more}
use Rattle.hir_pretty_docs.proofs.tokens.Tokens.add_before.Goals as goal

pub returns-in-Some : goal.returns-in-Some
returns-in-Some g c = rw c.in-Some.is (adds_more c.add_to.ensures c.add.ensures)
