-- What the calls of a line reader do.
use Rattle.std.specs.Prelude.{◌≡◌, ℕ, ◌+◌, Bool, true, false, eqb, List, [], ◌++◌, length, Option, Result, Ok, Err}
use Rattle.std.specs.Io.KnownBytes.{Consumes, IsAtEnd}
use Rattle.hir_show_io.specs.declared.lines.LineTaken.{LineTaken}
use Rattle.hir_show_io.specs.declared.lines.LineTaken.TheVariants.{Line, More, End}
use Rattle.hir_show_io.specs.declared.lines.FillFault.{FillFault}
use Rattle.hir_show_io.specs.declared.lines.FillFault.TheVariants.{OutOfMemory, InputFailed}
use Rattle.hir_show_io.specs.Effects.{IsKeptOrUntold}
use Rattle.hir_show_io.specs.Text.{HasNoLineEnd, TakesLine}
use Rattle.hir_show_io.specs.LineState.{LineState}

-- without the line taken last
abbrev pub without_line : LineState → LineState
without_line old = record old { line = [] }

-- what taking a line does, without a read
abbrev pub Takes : LineState → LineState → LineTaken → Type 0
Takes old new Line =
    TakesLine old.pending new.pending new.line old.at_end × (new.at_end ≡ old.at_end)
    × (new.count ≡ old.count + 1)
Takes old new More = (new ≡ old) × (old.at_end ≡ false) × HasNoLineEnd old.pending
Takes old new End = (new ≡ without_line old) × (old.at_end ≡ true) × (old.pending ≡ [])

-- a read gave these bytes; no bytes are the end of the input
abbrev pub with_bytes : LineState → List ℕ → LineState
with_bytes old bytes =
    record { line = []; pending = old.pending ++ bytes; at_end = eqb (length bytes) 0; count = old.count }

-- what one read does to the lines, and to the bytes that the source shows
abbrev pub Fills : LineState → LineState → Option (List ℕ) → Option (List ℕ) → Result (Unit {0}) FillFault →
    Type 0
Fills old new remaining remaining' (Ok done) =
    (bytes : List ℕ) × Consumes remaining remaining' bytes × (new ≡ with_bytes old bytes)
    × (bytes ≡ [] → IsAtEnd remaining)
Fills old new remaining remaining' (Err InputFailed) =
    (new ≡ without_line old) × IsKeptOrUntold remaining remaining'
Fills old new remaining remaining' (Err OutOfMemory) = new ≡ without_line old

abbrev pub is_failed_read : Result (Unit {0}) FillFault → Bool
is_failed_read (Ok done) = false
is_failed_read (Err InputFailed) = true
is_failed_read (Err OutOfMemory) = false
