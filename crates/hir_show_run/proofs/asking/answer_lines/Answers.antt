use Rattle.std.proofs.Common.{◌≡◌, ◌+◌, true, false, Ok, Err, length, ◌++◌, ◌∷◌, [], subst, sym, ◌∙◌, arith, length-append, refl}
use Rattle.std.proofs.lemmas.Result.{err_from_is_err_and}
use Rattle.hir_show_io.proofs.ReadLemmas.{ReadsLines-none, ReadsAll-end}
use Rattle.hir_show_grammar.specs.Line.{line_of}
use Rattle.hir_show_run.specs.internal.Output.{output_of}
use Rattle.hir_show_run.specs.internal.RunStates.{TakesNext, run_state_of}
use Rattle.hir_show_run.specs.internal.Stages.{AsksLine}
use Rattle.hir_show_run.proofs.AskedLemmas.{first_answered, first_left, first_fails, answered_kept, fails_to_read, read_on, counted_on, line_answered, line_left, line_fails}
use Rattle.hir_show_run.proofs.ClosingLemmas.{next_reads}
use Rattle.hir_show_run.proofs.asking.answer_lines.Goals as goal

pub returns-in_err-left-clause-asks : goal.returns-in_err-left-clause-asks
returns-in_err-left-clause-asks g c =
    let e = err_from_is_err_and c.from_residual.result c.from_residual.ensures.1 in
    let number = c.args.lines.now.count in
    rw (e.1, e.2) (first_fails g.A.Answers.may (g.A.Answers.Is c.args.asked.now) c.args.first (run_state_of g.R.Source g.W.Sink c.args.lines.now c.args.reader.now c.args.output.now) number (output_of g.W.Sink c.answer_question.new.output) c.in_err-left.field-0.0 (c.in_err-left.ensures.asks number))

pub returns-then-is_some-clause-asks : goal.returns-then-is_some-clause-asks
returns-then-is_some-clause-asks g c =
    first_left g.A.Answers.may (g.A.Answers.Is c.args.asked.now) c.args.first (run_state_of g.R.Source g.W.Sink c.args.lines.now c.args.reader.now c.args.output.now) (output_of g.W.Sink c.answer_question.new.output) c.in_ok-left.left (sym c.is_some.ensures ∙ c.if-is_some.true) ((c.in_ok-left.ensures {u = tt}).asks c.args.lines.now.count)

pub loop-left-init : goal.loop-left-init
loop-left-init g c =
    let told = c.in_ok-left.ensures {u = tt} in
    record {
      same_asked = told.same.0;
      same_sink = told.same.1;
      same_read_mark = refl;
      unfailed = told.failure;
      falls = omega arith;
      stays_ended = λ e. e;
      so_far = (
        [],
        first_answered g.A.Answers.may (g.A.Answers.Is c.args.asked.now) c.args.first (run_state_of g.R.Source g.W.Sink c.args.lines.now c.args.reader.now c.args.output.now) (output_of g.W.Sink c.answer_question.new.output) c.in_ok-left.left (sym c.is_some.ensures ∙ c.if-is_some.false) (told.asks c.args.lines.now.count),
        ReadsLines-none _ _,
        omega arith,
      );
    }

pub returns-in_err-next_line-clause-asks : goal.returns-in_err-next_line-clause-asks
returns-in_err-next_line-clause-asks g c =
    let e = err_from_is_err_and c.from_residual-in_err-next_line.result c.from_residual-in_err-next_line.ensures.1 in
    let start = run_state_of g.R.Source g.W.Sink c.args.lines.now c.args.reader.now c.args.output.now in
    let p = run_state_of g.R.Source g.W.Sink c.loop-left.lines c.loop-left.reader c.loop-left.output in
    let q = run_state_of g.R.Source g.W.Sink c.next_line.new.lines c.next_line.new.reader c.next_line.new.self in
    let all = c.loop-left.invariant.so_far in
    let stays = c.loop-left.invariant.stays_ended in
    let told = c.in_err-next_line.ensures {u = tt} in
    let next : TakesNext p q (Err c.in_err-next_line.field-0.0) = told.takes in
    rw (e.1, e.2) (fails_to_read g.A.Answers.may (g.A.Answers.Is c.args.asked.now) c.args.first start p all stays q c.in_err-next_line.field-0.0 next)

pub answer_next-requires : goal.answer_next-requires
answer_next-requires g c = (c.in_ok-next_line.ensures {u = tt}).output_failure ∙ c.loop-left.invariant.unfailed

pub loop-left-preserved : goal.loop-left-preserved
loop-left-preserved g c =
    let start = run_state_of g.R.Source g.W.Sink c.args.lines.now c.args.reader.now c.args.output.now in
    let p = run_state_of g.R.Source g.W.Sink c.loop-left.lines c.loop-left.reader c.loop-left.output in
    let q = run_state_of g.R.Source g.W.Sink c.next_line.new.lines c.next_line.new.reader c.next_line.new.self in
    let all = c.loop-left.invariant.so_far in
    let stays = c.loop-left.invariant.stays_ended in
    let Is = g.A.Answers.Is c.args.asked.now in
    let told = c.in_ok-next_line.ensures {u = tt} in
    let next : TakesNext p q (Ok true) = rw c.if-branch.true at told.takes in
    let fell = rw c.if-branch.true at told.falls refl in
    let answered = c.in_ok-later.ensures {u = tt} in
    let asks = subst (λ a. AsksLine g.A.Answers.may (g.A.Answers.Is a) (line_of q.lines.line) q.lines.count q.output (output_of g.W.Sink c.answer_next.new.output) (Ok c.in_ok-later.later)) c.loop-left.invariant.same_asked answered.asks in
    let count : q.lines.count ≡ start.lines.count + length all.0 + 1 = counted_on g.A.Answers.may Is c.args.first start p all stays q next in
    record {
      same_asked = answered.same.0 ∙ c.loop-left.invariant.same_asked;
      same_sink = answered.same.1 ∙ told.same ∙ c.loop-left.invariant.same_sink;
      same_read_mark = told.input_failure ∙ c.loop-left.invariant.same_read_mark;
      unfailed = answered.failure;
      falls = omega (arith, c.loop-left.invariant.falls, fell, next.count);
      stays_ended = λ ended. next.stays_ended (stays ended);
      so_far = (
        all.0 ++ q.lines.line ∷ [],
        line_answered g.A.Answers.may Is c.args.first start p all stays q next (output_of g.W.Sink c.answer_next.new.output) c.in_ok-later.later (sym c.is_some-in-loop-left.ensures ∙ c.if-is_some-2.false) asks,
        read_on g.A.Answers.may Is c.args.first start p all stays q next,
        omega (arith, count, length-append all.0 (q.lines.line ∷ [])),
      );
    }

pub returns-in_err-later-clause-asks : goal.returns-in_err-later-clause-asks
returns-in_err-later-clause-asks g c =
    let e = err_from_is_err_and c.from_residual-in_err-later.result c.from_residual-in_err-later.ensures.1 in
    let start = run_state_of g.R.Source g.W.Sink c.args.lines.now c.args.reader.now c.args.output.now in
    let p = run_state_of g.R.Source g.W.Sink c.loop-left.lines c.loop-left.reader c.loop-left.output in
    let q = run_state_of g.R.Source g.W.Sink c.next_line.new.lines c.next_line.new.reader c.next_line.new.self in
    let all = c.loop-left.invariant.so_far in
    let stays = c.loop-left.invariant.stays_ended in
    let told = c.in_ok-next_line.ensures {u = tt} in
    let next : TakesNext p q (Ok true) = rw c.if-branch.true at told.takes in
    let asks = subst (λ a. AsksLine g.A.Answers.may (g.A.Answers.Is a) (line_of q.lines.line) q.lines.count q.output (output_of g.W.Sink c.answer_next.new.output) (Err c.in_err-later.field-0.0)) c.loop-left.invariant.same_asked (c.in_err-later.ensures {u = tt}).asks in
    rw (e.1, e.2) (line_fails g.A.Answers.may (g.A.Answers.Is c.args.asked.now) c.args.first start p all stays q next (output_of g.W.Sink c.answer_next.new.output) c.in_err-later.field-0.0 asks)

pub returns-then-is_some-2-clause-asks : goal.returns-then-is_some-2-clause-asks
returns-then-is_some-2-clause-asks g c =
    let start = run_state_of g.R.Source g.W.Sink c.args.lines.now c.args.reader.now c.args.output.now in
    let p = run_state_of g.R.Source g.W.Sink c.loop-left.lines c.loop-left.reader c.loop-left.output in
    let q = run_state_of g.R.Source g.W.Sink c.next_line.new.lines c.next_line.new.reader c.next_line.new.self in
    let all = c.loop-left.invariant.so_far in
    let stays = c.loop-left.invariant.stays_ended in
    let told = c.in_ok-next_line.ensures {u = tt} in
    let next : TakesNext p q (Ok true) = rw c.if-branch.true at told.takes in
    let asks = subst (λ a. AsksLine g.A.Answers.may (g.A.Answers.Is a) (line_of q.lines.line) q.lines.count q.output (output_of g.W.Sink c.answer_next.new.output) (Ok c.in_ok-later.later)) c.loop-left.invariant.same_asked (c.in_ok-later.ensures {u = tt}).asks in
    line_left g.A.Answers.may (g.A.Answers.Is c.args.asked.now) c.args.first start p all stays q next (output_of g.W.Sink c.answer_next.new.output) c.in_ok-later.later (sym c.is_some-in-loop-left.ensures ∙ c.if-is_some-2.true) asks

pub returns-clause-asks : goal.returns-clause-asks
returns-clause-asks g c =
    let start = run_state_of g.R.Source g.W.Sink c.args.lines.now c.args.reader.now c.args.output.now in
    let p = run_state_of g.R.Source g.W.Sink c.loop-left.lines c.loop-left.reader c.loop-left.output in
    let q = run_state_of g.R.Source g.W.Sink c.next_line.new.lines c.next_line.new.reader c.next_line.new.self in
    let all = c.loop-left.invariant.so_far in
    let stays = c.loop-left.invariant.stays_ended in
    let told = c.in_ok-next_line.ensures {u = tt} in
    let next : TakesNext p q (Ok false) = rw c.if-branch.false at told.takes in
    (all.0, answered_kept g.A.Answers.may (g.A.Answers.Is c.args.asked.now) c.args.first start p all stays q next.writes, ReadsAll-end _ _ all.0 _ all.2 next.takes.0, omega (arith, all.3, next.count))

pub returns-in_err-next_line-clause-quiet : goal.returns-in_err-next_line-clause-quiet
returns-in_err-next_line-clause-quiet g c =
    let e = err_from_is_err_and c.from_residual-in_err-next_line.result c.from_residual-in_err-next_line.ensures.1 in
    rw (e.1, e.2) (next_reads (output_of g.W.Sink c.loop-left.output) (output_of g.W.Sink c.next_line.new.self) c.in_err-next_line.field-0.0 (c.in_err-next_line.ensures {u = tt}).takes.writes)
