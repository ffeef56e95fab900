use Rattle.std.proofs.Common.{◌≡◌, Some}
use Rattle.hir_show_run.proofs.captures.answer_captures.Goals as goal

pub captures-requires-clause-reached : goal.captures-requires-clause-reached
captures-requires-clause-reached g c = c.requires.reached

pub captures-requires-clause-chains : goal.captures-requires-clause-chains
captures-requires-clause-chains g c = c.requires.chains

pub returns-in-Ok-clause-ok : goal.returns-in-Ok-clause-ok
returns-in-Ok-clause-ok g c =
    let found = c.in-Ok.bindings.items in
    let same : c.deref.result.now ≡ found = c.deref.ensures.value in
    (Some found, (c.in-Ok.ensures.closure, c.in-Ok.ensures.captures), rw same at c.put_captures.ensures)
