-- Where a run is: what is read and not yet taken, what was written and what waits.
use Rattle.std.specs.Prelude.{◌≡◌, ◌+◌, ◌<◌, ◌^◌}
use Rattle.hir_show_run.specs.Prelude.{ℕ, List, Bool, true, Option, Result, cond, length, LineState, LineFault, NextTakes, NextWrites, is_found, bytes_left}
use Rattle.hir_show_io.specs.declared.ends.Source as source
use Rattle.hir_show_io.specs.declared.ends.Sink as sink
use Rattle.hir_show_run.specs.declared.output.Output as code
use Rattle.hir_show_run.specs.internal.Output.{Output, output_of}

-- the lines, what the source has left and by what number its reads are bounded, whether a read has failed,
-- and the output
pub record RunState : Type 0 where
  pub lines : LineState
  pub remaining : Option (List ℕ)
  pub allowance : ℕ
  pub failed : Bool
  pub output : Output

-- the place of the code's source, sink, lines and output
abbrev pub run_state_of : {R W : Type 0} → source.Ghosts R → sink.Ghosts W → LineState → R → code.Output W
    → RunState
run_state_of r w lines reader output = record {
  lines = lines;
  remaining = r.remaining reader;
  allowance = r.allowance reader;
  failed = r.is_failed reader;
  output = output_of w output;
}

-- the bytes that are still to be taken
abbrev pub unread : RunState → Option (List ℕ)
unread p = bytes_left p.lines.pending p.lines.at_end p.remaining

-- the lines that may still come can be counted
abbrev pub CountFits : RunState → Type 0
CountFits p = p.lines.count + length p.lines.pending + p.allowance < 2 ^ 64

-- the next line is taken, or why none is
pub record TakesNext (old new : RunState) (result : Result Bool LineFault) : Type 0 where
  pub takes : NextTakes (unread old) (unread new) new.remaining old.lines new.lines result
  pub writes :
      NextWrites old.output.contents new.output.contents old.output.waiting new.output.waiting result
  pub count : new.lines.count ≡ old.lines.count + cond (is_found result) 1 0
  pub stays_ended : old.lines.at_end ≡ true → new.lines.at_end ≡ true
