use Rattle.std.proofs.Common.{rules}
use Rattle.hir_c.proofs.CallLemmas.{fetches_some}
use Rattle.hir_c.proofs.hir_c_fetch.Goals as goal

pub returns-in-Some : goal.returns-in-Some
returns-in-Some c =
    fetches_some c.args.handle.now.slot.kept c.of.result.slot.kept c.deref_mut.result.now c.fetch.new.session
    c.args.buffer.now c.fetch.new.buffer c.fetch.result
    (search rules) (search rules) c.fetch.ensures
