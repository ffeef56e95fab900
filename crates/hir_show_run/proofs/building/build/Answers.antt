use Rattle.std.proofs.Common.{Bool, true, false, Ok, Err, ◌++◌, ◌∷◌, [], sym, ap, subst, ◌∙◌, arith, length-append, refl, ◌||◌}
use Rattle.std.proofs.lemmas.Result.{err_from_is_err_and}
use Rattle.hir_show_io.proofs.ReadLemmas.{ReadsAll-end}
use Rattle.hir_show_run.specs.internal.Output.{Output}
use Rattle.hir_show_run.specs.Parts.{Parts}
use Rattle.hir_show_run.specs.internal.Parts.{builder_parts}
use Rattle.hir_show_run.specs.internal.RunStates.{TakesNext, run_state_of}
use Rattle.hir_show_run.specs.internal.Stages.{Builds, BuildsLine}
use Rattle.hir_show_run.proofs.BuildingLemmas.{no_line_yet, build_fails, build_line_fails, asked_next, asked_reads_none, read_on, counted_on}
use Rattle.hir_show_run.proofs.Making.{makes_line}
use Rattle.hir_show_run.proofs.building.build.Goals as goal

pub loop-alloc-init : goal.loop-alloc-init
loop-alloc-init g c = record {
  same_sink = refl;
  same_mark = refl;
  quiet = c.requires.quiet;
  untouched = refl;
  falls = omega arith;
  so_far = no_line_yet (run_state_of g.R.Source g.W.Sink c.args.lines.now c.args.reader.now c.args.output.now) (builder_parts c.args.builder.now) c.requires.fresh.0 c.requires.fresh.1;
}

pub returns-in_err-next_line-clause-builds : goal.returns-in_err-next_line-clause-builds
returns-in_err-next_line-clause-builds g c =
    let e = err_from_is_err_and c.from_residual.result c.from_residual.ensures.1 in
    let known = g.R.Source.remaining c.args.reader.now in
    let p = run_state_of g.R.Source g.W.Sink c.loop-alloc.lines c.loop-alloc.reader c.loop-alloc.output in
    let q = run_state_of g.R.Source g.W.Sink c.next_line.new.lines c.next_line.new.reader c.next_line.new.self in
    let old = builder_parts c.loop-alloc.builder in
    let all = c.loop-alloc.invariant.so_far in
    let told = c.in_err-next_line.ensures {u = tt} in
    let quiet = told.idle c.loop-alloc.invariant.quiet in
    let next : TakesNext p q (Err c.in_err-next_line.field-0.0) = told.takes in
    rw (e.1, e.2) (build_fails known p old all q c.in_err-next_line.field-0.0 next quiet.0)

pub loop-alloc-preserved : goal.loop-alloc-preserved
loop-alloc-preserved g c =
    let known = g.R.Source.remaining c.args.reader.now in
    let p = run_state_of g.R.Source g.W.Sink c.loop-alloc.lines c.loop-alloc.reader c.loop-alloc.output in
    let q = run_state_of g.R.Source g.W.Sink c.next_line.new.lines c.next_line.new.reader c.next_line.new.self in
    let old = builder_parts c.loop-alloc.builder in
    let all = c.loop-alloc.invariant.so_far in
    let new = builder_parts c.build_line.new.builder in
    let told = c.in_ok-next_line.ensures {u = tt} in
    let next : TakesNext p q (Ok true) = rw c.if-branch.true at told.takes in
    let fell = rw c.if-branch.true at told.falls refl in
    let quiet = told.idle c.loop-alloc.invariant.quiet in
    let does = subst (λ (taken : Bool). BuildsLine q.lines old new (Ok taken)) c.if-not-branch.false (c.in_ok-build_line.ensures {u = tt}) in
    let made = makes_line q.lines old new all.0 all.1 all.2 does in
    let count = counted_on known p old all q next in
    record {
      same_sink = told.same ∙ c.loop-alloc.invariant.same_sink;
      same_mark = told.input_failure ∙ c.loop-alloc.invariant.same_mark;
      quiet = ap (λ (o : Output). o.waiting) quiet.1 ∙ c.loop-alloc.invariant.quiet;
      untouched = quiet.1 ∙ c.loop-alloc.invariant.untouched;
      falls = omega (arith, c.loop-alloc.invariant.falls, fell, next.count);
      so_far = (all.0 ++ q.lines.line ∷ [], made.0, made.1, read_on known p old all q next, omega (arith, count, length-append all.0 (q.lines.line ∷ [])));
    }

pub returns-in_err-build_line-clause-builds : goal.returns-in_err-build_line-clause-builds
returns-in_err-build_line-clause-builds g c =
    let e = err_from_is_err_and c.from_residual-in_err-build_line.result c.from_residual-in_err-build_line.ensures.1 in
    let known = g.R.Source.remaining c.args.reader.now in
    let p = run_state_of g.R.Source g.W.Sink c.loop-alloc.lines c.loop-alloc.reader c.loop-alloc.output in
    let q = run_state_of g.R.Source g.W.Sink c.next_line.new.lines c.next_line.new.reader c.next_line.new.self in
    let old = builder_parts c.loop-alloc.builder in
    let all = c.loop-alloc.invariant.so_far in
    let told = c.in_ok-next_line.ensures {u = tt} in
    let next : TakesNext p q (Ok true) = rw c.if-branch.true at told.takes in
    let new = builder_parts c.build_line.new.builder in
    rw (e.1, e.2) (build_line_fails known p old all q next new new c.in_err-build_line.field-0.0 (c.in_err-build_line.ensures {u = tt}))

pub returns-then-not-branch-clause-builds : goal.returns-then-not-branch-clause-builds
returns-then-not-branch-clause-builds g c =
    let known = g.R.Source.remaining c.args.reader.now in
    let p = run_state_of g.R.Source g.W.Sink c.loop-alloc.lines c.loop-alloc.reader c.loop-alloc.output in
    let q = run_state_of g.R.Source g.W.Sink c.next_line.new.lines c.next_line.new.reader c.next_line.new.self in
    let old = builder_parts c.loop-alloc.builder in
    let all = c.loop-alloc.invariant.so_far in
    let told = c.in_ok-next_line.ensures {u = tt} in
    let next : TakesNext p q (Ok true) = rw c.if-branch.true at told.takes in
    let left = subst (λ (taken : Bool). BuildsLine q.lines old (builder_parts c.build_line.new.builder) (Ok taken)) c.if-not-branch.true (c.in_ok-build_line.ensures {u = tt}) in
    subst (λ (parts : Parts). Builds known q parts c.asked_by.result) (sym left.1) (asked_next known p old all q next c.asked_by.result left.0 c.asked_by.ensures)

pub returns-then-not-branch-clause-failure : goal.returns-then-not-branch-clause-failure
returns-then-not-branch-clause-failure g c =
    let told = c.in_ok-next_line.ensures {u = tt} in
    told.input_failure ∙ c.loop-alloc.invariant.same_mark ∙ sym (ap (λ b. b || g.R.Source.is_failed c.args.reader.now) (asked_reads_none c.next_line.new.lines c.asked_by.result c.asked_by.ensures))

pub returns-clause-builds : goal.returns-clause-builds
returns-clause-builds g c =
    let p = run_state_of g.R.Source g.W.Sink c.loop-alloc.lines c.loop-alloc.reader c.loop-alloc.output in
    let q = run_state_of g.R.Source g.W.Sink c.next_line.new.lines c.next_line.new.reader c.next_line.new.self in
    let all = c.loop-alloc.invariant.so_far in
    let told = c.in_ok-next_line.ensures {u = tt} in
    let next : TakesNext p q (Ok false) = rw c.if-branch.false at told.takes in
    (all.0, all.1, ReadsAll-end _ _ all.0 _ all.3 next.takes.0, next.takes.2, omega (arith, all.4, next.count))
