use Rattle.std.proofs.Common.{Option, [], refl}
use Rattle.std.proofs.lemmas.Result.{err_from_is_err_and}
use Rattle.hir_show_grammar.specs.declared.question.Question.{Question}
use Rattle.hir_show_run.specs.internal.Output.{output_of}
use Rattle.hir_show_run.proofs.AskedLemmas.{asked_fails, asked_marks_none}
use Rattle.hir_show_run.proofs.WritingLemmas.{Wrote-none}
use Rattle.hir_show_run.proofs.asking.answer_next.Goals as goal

pub returns-in_err-question-clause-asks : goal.returns-in_err-question-clause-asks
returns-in_err-question-clause-asks g c =
    let p = err_from_is_err_and c.from_residual.result c.from_residual.ensures.1 in
    rw (p.1, p.2) (asked_fails g.A.Answers.may (g.A.Answers.Is c.args.asked.now) c.args.lines.now (output_of g.W.Sink c.args.output.now) c.in_err-question.field-0.0 c.in_err-question.ensures)

pub returns-in_err-question-clause-failure : goal.returns-in_err-question-clause-failure
returns-in_err-question-clause-failure g c =
    let p = err_from_is_err_and c.from_residual.result c.from_residual.ensures.1 in
    let none = asked_marks_none (Option Question) c.args.lines.now c.in_err-question.field-0.0 c.in_err-question.ensures in
    rw (p.1, p.2, none.1) c.requires

pub returns-in_err-question-clause-reads_none : goal.returns-in_err-question-clause-reads_none
returns-in_err-question-clause-reads_none g c =
    let p = err_from_is_err_and c.from_residual.result c.from_residual.ensures.1 in
    rw (p.1, p.2) (asked_marks_none (Option Question) c.args.lines.now c.in_err-question.field-0.0 c.in_err-question.ensures).0

pub returns-in-Some-clause-asks : goal.returns-in-Some-clause-asks
returns-in-Some-clause-asks g c =
    let says = rw c.in-Some.is at (c.in_ok-question.ensures {u = tt}) in
    rw says (c.answer_question.ensures.asks c.args.lines.now.count)

pub returns-in-None-clause-asks : goal.returns-in-None-clause-asks
returns-in-None-clause-asks g c =
    let says = rw c.in-None.is at (c.in_ok-question.ensures {u = tt}) in
    rw says (refl, [], refl, Wrote-none (output_of g.W.Sink c.args.output.now))
