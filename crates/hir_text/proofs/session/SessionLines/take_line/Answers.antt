use Rattle.hir_text.specs.Sealed.{taken_by_call}
use Rattle.hir_text.proofs.session.SessionLines.take_line.Goals as goal

pub returns : goal.returns
returns c = taken_by_call _ _ _ _
