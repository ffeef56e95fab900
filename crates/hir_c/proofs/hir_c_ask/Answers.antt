use Rattle.std.proofs.Common.{rules}
use Rattle.hir_c.proofs.CallLemmas.{asks_some}
use Rattle.hir_c.proofs.hir_c_ask.Goals as goal

pub returns-in-Some : goal.returns-in-Some
returns-in-Some c =
    asks_some c.args.handle.now.slot.kept c.of.result.slot.kept c.deref_mut.result.now c.ask-status.new.session
    c.args.text.now c.args.buffer.now c.ask-status.new.buffer c.ask-status.result.0 c.ask-status.result.1
    (search rules) (search rules) c.ask-status.ensures
