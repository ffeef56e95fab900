use Rattle.hir_pretty_docs.proofs.Common.{}
use Rattle.hir_pretty_docs.proofs.tokens.Tokens.add_target.Goals as goal

pub returns-in-ImplId : goal.returns-in-ImplId
returns-in-ImplId c = rw c.in-ImplId.is (rw c.into_raw.ensures at c.add_numbered.ensures)
