use Rattle.std.proofs.Common.{inr}
use Rattle.hir_c.proofs.hir_c_answer.Goals as goal

-- the session that was made, and what it is after the text
pub returns : goal.returns
returns c = inr (c.in-Ok.session, c.ask-status.new.session, c.in-Ok.ensures.session, c.ask-status.ensures)
