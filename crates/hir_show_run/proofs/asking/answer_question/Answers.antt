use Rattle.std.proofs.Common.{refl}
use Rattle.std.proofs.lemmas.Result.{err_from_is_err_and}
use Rattle.hir_show_run.proofs.asking.answer_question.Goals as goal

pub returns-in_err-left-clause-asks : goal.returns-in_err-left-clause-asks
returns-in_err-left-clause-asks g c = λ number.
    let e = err_from_is_err_and c.from_residual.result c.from_residual.ensures.1 in
    rw (e.1, e.2) (c.args.question, refl, c.in_err-left.ensures.memory)
