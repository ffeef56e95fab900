use Rattle.std.proofs.Common.{List, ℕ, sym, ap, ◌∙◌}
use Rattle.hir_show_run.specs.internal.Output.{Output}
use Rattle.hir_show_run.proofs.output.Output.next_line.Goals as goal

pub returns-clause-takes : goal.returns-clause-takes
returns-clause-takes g c = record {
  takes = c.next_line.ensures.takes;
  writes = c.next_line.ensures.writes;
  count = c.next_line.ensures.count;
  stays_ended = c.next_line.ensures.stays_ended;
}

pub returns-clause-idle : goal.returns-clause-idle
returns-clause-idle g c = λ none.
    let old = c.args.self.now in
    let seen : g.row.W.Denot → List ℕ → Output = λ x ws. record { sink_name = old.writer.ghost_name; contents = g.W.Sink.contents x; failed = g.W.Sink.is_failed x; waiting = ws } in
    let quiet = c.next_line.ensures.idle none in
    (quiet.0, ap (λ x. seen x c.next_line.new.output) quiet.1 ∙ ap (λ ws. seen old.writer.now ws) (quiet.2 ∙ sym none))
