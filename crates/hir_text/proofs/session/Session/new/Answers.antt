use Rattle.hir_text.specs.Sealed.{made_is_new}
use Rattle.hir_text.proofs.session.Session.new.Goals as goal

pub returns : goal.returns
returns c = made_is_new _
