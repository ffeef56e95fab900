use Rattle.std.proofs.Common.{Option, Some, Ok, Err, subst, sym, ap, ◌∙◌, true≢false}
use Rattle.std.proofs.lemmas.Result.{err_from_is_err_and}
use Rattle.hir_store_core.specs.Contents.{Contents}
use Rattle.hir_body.specs.Bodies.{body_of}
use Rattle.hir_show_grammar.specs.declared.question.Question.{Question}
use Rattle.hir_show_run.specs.internal.Output.{Output, output_of}
use Rattle.hir_show_run.specs.internal.Parts.{builder_parts}
use Rattle.hir_show_run.specs.internal.RunStates.{run_state_of}
use Rattle.hir_show_run.specs.internal.Stages.{Builds, IsBodyOf}
use Rattle.hir_show_run.proofs.ClosingLemmas.{accept_reads_none, body_reads_none, build_writes_none, reads_as, none_before}
use Rattle.hir_show_run.proofs.OfLinesLemmas.{built_of_lines, of_built}
use Rattle.hir_show_run.proofs.ScriptLemmas.{script_build, script_finish, script_accept, script_store_ends, script_store_done, script_body, script_body_ends, script_body_done}
use Rattle.hir_show_run.proofs.program.answer_script.Goals as goal

pub answer_lines-requires-clause-unfailed : goal.answer_lines-requires-clause-unfailed
answer_lines-requires-clause-unfailed g c = ap (λ (o : Output). o.failed) (c.in_ok-first.ensures {u = tt}).still_quiet ∙ c.requires.unfailed.1

pub returns-in_err-first-clause-runs : goal.returns-in_err-first-clause-runs
returns-in_err-first-clause-runs g c =
    let e = err_from_is_err_and c.from_residual.result c.from_residual.ensures.1 in
    let start = run_state_of g.R.Source g.W.Sink c.args.lines.now c.args.reader.now c.args.output.now in
    let p = run_state_of g.R.Source g.W.Sink c.build.new.lines c.build.new.reader c.build.new.output in
    let parts = builder_parts c.build.new.builder in
    let told = c.in_err-first.ensures {u = tt} in
    rw (e.1, e.2) (script_build start.output p parts told.still_quiet start.remaining c.in_err-first.field-0.0 told.builds)

pub returns-in_err-store-clause-runs : goal.returns-in_err-store-clause-runs
returns-in_err-store-clause-runs g c =
    let e = err_from_is_err_and c.from_residual-in_err-store.result c.from_residual-in_err-store.ensures.1 in
    let start = run_state_of g.R.Source g.W.Sink c.args.lines.now c.args.reader.now c.args.output.now in
    let p = run_state_of g.R.Source g.W.Sink c.build.new.lines c.build.new.reader c.build.new.output in
    let parts = builder_parts c.build.new.builder in
    let told = c.in_ok-first.ensures {u = tt} in
    rw (e.1, e.2) (script_finish start.output p parts told.still_quiet start.remaining c.in_ok-first.first c.in_err-store.field-0.0 told.builds c.in_err-store.ensures)

pub returns-in-None-clause-runs : goal.returns-in-None-clause-runs
returns-in-None-clause-runs g c =
    let start = run_state_of g.R.Source g.W.Sink c.args.lines.now c.args.reader.now c.args.output.now in
    let p = run_state_of g.R.Source g.W.Sink c.build.new.lines c.build.new.reader c.build.new.output in
    let parts = builder_parts c.build.new.builder in
    let told = c.in_ok-first.ensures {u = tt} in
    let q = record p { output = output_of g.W.Sink c.accept.new.self } in
    script_accept start.output p parts told.still_quiet c.in_ok-store.store (c.in_ok-store.ensures {u = tt}) start.remaining q c.accept.result (rw c.in-None.is at told.builds) c.accept.ensures.accepts

pub returns-in_err-left-clause-runs : goal.returns-in_err-left-clause-runs
returns-in_err-left-clause-runs g c =
    let e = err_from_is_err_and c.from_residual-in_err-left.result c.from_residual-in_err-left.ensures.1 in
    let start = run_state_of g.R.Source g.W.Sink c.args.lines.now c.args.reader.now c.args.output.now in
    let p = run_state_of g.R.Source g.W.Sink c.build.new.lines c.build.new.reader c.build.new.output in
    let parts = builder_parts c.build.new.builder in
    let told = c.in_ok-first.ensures {u = tt} in
    let met : Builds start.remaining p parts (Ok (Some c.in-Some.on_store)) = rw c.in-Some.is at told.builds in
    let store = c.in_ok-store.ensures {u = tt} in
    let q = run_state_of g.R.Source g.W.Sink c.answer_lines.new.lines c.answer_lines.new.reader c.answer_lines.new.output in
    rw (e.1, e.2) (script_store_ends start.output p parts told.still_quiet c.in_ok-store.store store c.in-Some.on_store start.remaining q c.in_err-left.field-0.0 met c.in_err-left.ensures.asks)

pub returns-in-None-left-clause-runs : goal.returns-in-None-left-clause-runs
returns-in-None-left-clause-runs g c =
    let start = run_state_of g.R.Source g.W.Sink c.args.lines.now c.args.reader.now c.args.output.now in
    let p = run_state_of g.R.Source g.W.Sink c.build.new.lines c.build.new.reader c.build.new.output in
    let parts = builder_parts c.build.new.builder in
    let told = c.in_ok-first.ensures {u = tt} in
    let met : Builds start.remaining p parts (Ok (Some c.in-Some.on_store)) = rw c.in-Some.is at told.builds in
    let store = c.in_ok-store.ensures {u = tt} in
    let q = run_state_of g.R.Source g.W.Sink c.answer_lines.new.lines c.answer_lines.new.reader c.answer_lines.new.output in
    script_store_done start.output p parts told.still_quiet c.in_ok-store.store store c.in-Some.on_store start.remaining q met (rw c.in-None-left.is at (c.in_ok-left.ensures {u = tt}).asks)

pub returns-in_err-whole-clause-runs : goal.returns-in_err-whole-clause-runs
returns-in_err-whole-clause-runs g c =
    let e = err_from_is_err_and c.from_residual-in_err-whole.result c.from_residual-in_err-whole.ensures.1 in
    let start = run_state_of g.R.Source g.W.Sink c.args.lines.now c.args.reader.now c.args.output.now in
    let p = run_state_of g.R.Source g.W.Sink c.build.new.lines c.build.new.reader c.build.new.output in
    let parts = builder_parts c.build.new.builder in
    let told = c.in_ok-first.ensures {u = tt} in
    let met : Builds start.remaining p parts (Ok (Some c.in-Some.on_store)) = rw c.in-Some.is at told.builds in
    let store = c.in_ok-store.ensures {u = tt} in
    let q = run_state_of g.R.Source g.W.Sink c.answer_lines.new.lines c.answer_lines.new.reader c.answer_lines.new.output in
    let left = rw c.in-Some-left.is at (c.in_ok-left.ensures {u = tt}).asks in
    let refused : IsBodyOf (body_of c.in_ok-store.store parts.params parts.self_param) (Err c.in_err-whole.field-0.0) = subst (λ (s : Contents). IsBodyOf (body_of s parts.params parts.self_param) (Err c.in_err-whole.field-0.0)) (c.in_ok-left.ensures {u = tt}).same.0 c.in_err-whole.ensures in
    rw (e.1, e.2) (script_body start.output p parts told.still_quiet c.in_ok-store.store store c.in-Some.on_store q c.in-Some-left.on_body left start.remaining c.in_err-whole.field-0.0 met refused)

pub returns-in_err-unasked-clause-runs : goal.returns-in_err-unasked-clause-runs
returns-in_err-unasked-clause-runs g c =
    let e = err_from_is_err_and c.from_residual-in_err-unasked.result c.from_residual-in_err-unasked.ensures.1 in
    let start = run_state_of g.R.Source g.W.Sink c.args.lines.now c.args.reader.now c.args.output.now in
    let p = run_state_of g.R.Source g.W.Sink c.build.new.lines c.build.new.reader c.build.new.output in
    let parts = builder_parts c.build.new.builder in
    let told = c.in_ok-first.ensures {u = tt} in
    let met : Builds start.remaining p parts (Ok (Some c.in-Some.on_store)) = rw c.in-Some.is at told.builds in
    let store = c.in_ok-store.ensures {u = tt} in
    let q = run_state_of g.R.Source g.W.Sink c.answer_lines.new.lines c.answer_lines.new.reader c.answer_lines.new.output in
    let left = rw c.in-Some-left.is at (c.in_ok-left.ensures {u = tt}).asks in
    let body : IsBodyOf (body_of c.in_ok-store.store parts.params parts.self_param) (Ok c.in_ok-whole.whole) = rw (c.in_ok-left.ensures {u = tt}).same.0 at (c.in_ok-whole.ensures {u = tt}) in
    rw (e.1, e.2) (script_body_ends start.output p parts told.still_quiet c.in_ok-store.store store c.in-Some.on_store q c.in-Some-left.on_body left c.new-body.result c.in_ok-whole.whole body c.new-body.ensures start.remaining (run_state_of g.R.Source g.W.Sink c.answer_lines-2.new.lines c.answer_lines-2.new.reader c.answer_lines-2.new.output) c.in_err-unasked.field-0.0 met c.in_err-unasked.ensures.asks)

pub returns-clause-runs : goal.returns-clause-runs
returns-clause-runs g c =
    let start = run_state_of g.R.Source g.W.Sink c.args.lines.now c.args.reader.now c.args.output.now in
    let p = run_state_of g.R.Source g.W.Sink c.build.new.lines c.build.new.reader c.build.new.output in
    let parts = builder_parts c.build.new.builder in
    let told = c.in_ok-first.ensures {u = tt} in
    let met : Builds start.remaining p parts (Ok (Some c.in-Some.on_store)) = rw c.in-Some.is at told.builds in
    let store = c.in_ok-store.ensures {u = tt} in
    let q = run_state_of g.R.Source g.W.Sink c.answer_lines.new.lines c.answer_lines.new.reader c.answer_lines.new.output in
    let left = rw c.in-Some-left.is at (c.in_ok-left.ensures {u = tt}).asks in
    let body : IsBodyOf (body_of c.in_ok-store.store parts.params parts.self_param) (Ok c.in_ok-whole.whole) = rw (c.in_ok-left.ensures {u = tt}).same.0 at (c.in_ok-whole.ensures {u = tt}) in
    script_body_done start.output p parts told.still_quiet c.in_ok-store.store store c.in-Some.on_store q c.in-Some-left.on_body left c.new-body.result c.in_ok-whole.whole body c.new-body.ensures start.remaining (run_state_of g.R.Source g.W.Sink c.answer_lines-2.new.lines c.answer_lines-2.new.reader c.answer_lines-2.new.output) met (rw c.in-None-unasked.is at (c.in_ok-unasked.ensures {u = tt}).asks)

pub new-body-requires : goal.new-body-requires
new-body-requires g c =
    let start = run_state_of g.R.Source g.W.Sink c.args.lines.now c.args.reader.now c.args.output.now in
    let p = run_state_of g.R.Source g.W.Sink c.build.new.lines c.build.new.reader c.build.new.output in
    let parts = builder_parts c.build.new.builder in
    let told = c.in_ok-first.ensures {u = tt} in
    let of_lines = built_of_lines c.said_is_written.ensures start.remaining p parts c.in_ok-first.first told.builds in
    rw ((c.in_ok-whole.ensures {u = tt}).0, (c.in_ok-left.ensures {u = tt}).same.0) (of_built parts.built c.in_ok-store.store (c.in_ok-store.ensures {u = tt}) of_lines)

pub returns-in_err-whole-clause-input_failed : goal.returns-in_err-whole-clause-input_failed
returns-in_err-whole-clause-input_failed g c =
    let e = err_from_is_err_and c.from_residual-in_err-whole.result c.from_residual-in_err-whole.ensures.1 in
    let none = body_reads_none (Unit {0}) (body_of c.answer_lines.new.asked c.build.new.builder.params c.build.new.builder.self_param) c.in_err-whole.field-0.0 c.in_err-whole.ensures in
    rw (e.1, e.2) ((c.in_ok-left.ensures {u = tt}).read_failure ∙ (c.in_ok-first.ensures {u = tt}).failure ∙ c.requires.unfailed.0 ∙ sym none.0)

pub returns-in_err-unasked-clause-input_failed : goal.returns-in_err-unasked-clause-input_failed
returns-in_err-unasked-clause-input_failed g c =
    let e = err_from_is_err_and c.from_residual-in_err-unasked.result c.from_residual-in_err-unasked.ensures.1 in
    let before = (c.in_ok-left.ensures {u = tt}).read_failure ∙ (c.in_ok-first.ensures {u = tt}).failure ∙ c.requires.unfailed.0 in
    rw (e.1, e.2) (none_before _ _ _ c.in_err-unasked.ensures.read_failure before ∙ reads_as (Option Question) (Unit {0}) c.in_err-unasked.field-0.0)

pub returns-in_err-first-clause-input_failed : goal.returns-in_err-first-clause-input_failed
returns-in_err-first-clause-input_failed g c =
    let e = err_from_is_err_and c.from_residual.result c.from_residual.ensures.1 in
    rw (e.1, e.2) (none_before _ _ _ (c.in_err-first.ensures {u = tt}).failure c.requires.unfailed.0 ∙ reads_as (Option Question) (Unit {0}) c.in_err-first.field-0.0)

pub returns-in_err-first-clause-output_failed : goal.returns-in_err-first-clause-output_failed
returns-in_err-first-clause-output_failed g c =
    let e = err_from_is_err_and c.from_residual.result c.from_residual.ensures.1 in
    let start = run_state_of g.R.Source g.W.Sink c.args.lines.now c.args.reader.now c.args.output.now in
    let p = run_state_of g.R.Source g.W.Sink c.build.new.lines c.build.new.reader c.build.new.output in
    let told = c.in_err-first.ensures {u = tt} in
    rw (e.1, e.2) (ap (λ (o : Output). o.failed) told.still_quiet ∙ c.requires.unfailed.1 ∙ sym (build_writes_none (Unit {0}) _ p (builder_parts c.build.new.builder) c.in_err-first.field-0.0 told.builds))

pub returns-in-None-clause-output_failed : goal.returns-in-None-clause-output_failed
returns-in-None-clause-output_failed g c = none_before _ _ _ c.accept.ensures.failure (ap (λ (o : Output). o.failed) (c.in_ok-first.ensures {u = tt}).still_quiet ∙ c.requires.unfailed.1)

pub returns-in_err-first-clause-quiet : goal.returns-in_err-first-clause-quiet
returns-in_err-first-clause-quiet g c = λ failed. ap (λ (o : Output). o.waiting) (c.in_err-first.ensures {u = tt}).still_quiet ∙ c.requires.quiet

pub returns-in_err-store-clause-quiet : goal.returns-in_err-store-clause-quiet
returns-in_err-store-clause-quiet g c = λ failed. ap (λ (o : Output). o.waiting) (c.in_ok-first.ensures {u = tt}).still_quiet ∙ c.requires.quiet

pub returns-in-None-clause-quiet : goal.returns-in-None-clause-quiet
returns-in-None-clause-quiet g c = λ failed. absurd (true≢false (sym failed ∙ accept_reads_none (output_of g.W.Sink c.build.new.output) (output_of g.W.Sink c.accept.new.self) c.accept.result c.accept.ensures.accepts))

pub returns-in_err-left-clause-quiet : goal.returns-in_err-left-clause-quiet
returns-in_err-left-clause-quiet g c =
    let e = err_from_is_err_and c.from_residual-in_err-left.result c.from_residual-in_err-left.ensures.1 in
    rw (e.1, e.2) (λ failed. c.in_err-left.ensures.quiet (reads_as (Option Question) (Unit {0}) c.in_err-left.field-0.0 ∙ failed))

pub returns-in_err-whole-clause-quiet : goal.returns-in_err-whole-clause-quiet
returns-in_err-whole-clause-quiet g c =
    let e = err_from_is_err_and c.from_residual-in_err-whole.result c.from_residual-in_err-whole.ensures.1 in
    let none = body_reads_none (Unit {0}) (body_of c.answer_lines.new.asked c.build.new.builder.params c.build.new.builder.self_param) c.in_err-whole.field-0.0 c.in_err-whole.ensures in
    rw (e.1, e.2) (λ failed. absurd (true≢false (sym failed ∙ none.0)))

pub returns-in_err-unasked-clause-quiet : goal.returns-in_err-unasked-clause-quiet
returns-in_err-unasked-clause-quiet g c =
    let e = err_from_is_err_and c.from_residual-in_err-unasked.result c.from_residual-in_err-unasked.ensures.1 in
    rw (e.1, e.2) (λ failed. c.in_err-unasked.ensures.quiet (reads_as (Option Question) (Unit {0}) c.in_err-unasked.field-0.0 ∙ failed))
