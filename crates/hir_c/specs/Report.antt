-- The numbers that C sees of an outcome, and a report.
use Rattle.std.specs.Prelude.{◌≡◌, ℕ, Bool, true, false}
use Rattle.hir_text_words.specs.declared.lines.Outcome.{Outcome}
use Rattle.hir_text_words.specs.declared.lines.Outcome.TheVariants as outcome
use Rattle.hir_c.specs.declared.report.Report.{Report}

-- the status of a text that was taken so
abbrev pub status_of : Outcome → ℕ
status_of outcome.Answered = 0
status_of (outcome.Refused line) = 1
status_of (outcome.BadLine line) = 2
status_of outcome.Memory = 3

-- the line that is reported; 0 where none is
abbrev pub line_of : Outcome → ℕ
line_of outcome.Answered = 0
line_of (outcome.Refused line) = line
line_of (outcome.BadLine line) = line
line_of outcome.Memory = 0

abbrev pub has_bad_line : Outcome → Bool
has_bad_line outcome.Answered = false
has_bad_line (outcome.Refused line) = false
has_bad_line (outcome.BadLine line) = true
has_bad_line outcome.Memory = false

-- all lines were taken
abbrev pub is_taken : Outcome → Bool
is_taken outcome.Answered = true
is_taken (outcome.Refused line) = true
is_taken (outcome.BadLine line) = false
is_taken outcome.Memory = false

-- the line of this outcome, and a place in it only where it is a bad one
abbrev pub NamesLine : Outcome → Report → Type 0
NamesLine how report = (report.line ≡ line_of how) × (has_bad_line how ≡ false → (report.column ≡ 0) × (report.reason ≡ 0))

-- there is nothing to report
abbrev pub IsBlank : Report → Type 0
IsBlank report = (report.length ≡ 0) × (report.written ≡ 0) × (report.line ≡ 0) × (report.column ≡ 0) × (report.reason ≡ 0)
