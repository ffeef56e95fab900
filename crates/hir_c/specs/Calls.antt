-- What each call leaves: in the handle, in the caller's buffer, in the report, and as its status.
use Rattle.std.specs.Prelude.{◌≡◌, ℕ, List, Option, None, Some, cond, length, min, drop, ◌⊎◌}
use Rattle.hir_text.specs.declared.buffered.BufferedSession.{BufferedSession}
use Rattle.hir_text_words.specs.declared.lines.Outcome.{Outcome}
use Rattle.hir_text.specs.Buffered.{kept, with_front, Asks}
use Rattle.hir_text.specs.Sealed.{IsNew, SessionTakes}
use Rattle.hir_text_words.specs.TakesText.{TakesText}
use Rattle.hir_c.specs.declared.report.Report.{Report}
use Rattle.hir_c.specs.Report.{status_of, is_taken, NamesLine, IsBlank}

-- the session takes the text: the first part of its answers is in the buffer, the rest is kept, and the report
-- and the status say so
abbrev pub Tells : BufferedSession → List ℕ → List ℕ → BufferedSession → List ℕ → Report → ℕ → Type 0
Tells old text buffer_old new buffer_new report status =
    (how : Outcome) × Asks old text buffer_old new buffer_new how report.length report.written
    × NamesLine how report × (status ≡ status_of how)

-- what opening leaves where there was no session: one that has taken all lines of the text, and keeps their
-- answers; or none, where memory is refused or a line is bad
abbrev pub Opens : List ℕ → Option BufferedSession → Report → ℕ → Type 0
Opens text new report status =
    ((new ≡ None) × IsBlank report × (status ≡ 3))
    ⊎ ((fresh : BufferedSession) × (session : BufferedSession) × (how : Outcome) × IsNew fresh.session
    × TakesText SessionTakes fresh.session text session.session (kept session) how
    × (new ≡ cond (is_taken how) (Some session) None) × (report.length ≡ cond (is_taken how) (length (kept session)) 0)
    × (report.written ≡ 0) × NamesLine how report × (status ≡ status_of how))

-- what asking leaves
abbrev pub AsksKept : Option BufferedSession → List ℕ → List ℕ → Option BufferedSession → List ℕ → Report → ℕ → Type 0
AsksKept None text buffer_old new buffer_new report status = (new ≡ None) × (buffer_new ≡ buffer_old) × IsBlank report × (status ≡ 4)
AsksKept (Some old) text buffer_old new buffer_new report status =
    (session : BufferedSession) × (new ≡ Some session) × Tells old text buffer_old session buffer_new report status

-- the session stays, the next part of what it keeps is in the buffer, and the rest is kept
abbrev pub Fetches : BufferedSession → List ℕ → BufferedSession → List ℕ → Report → Type 0
Fetches old buffer_old new buffer_new report =
    (new.session ≡ old.session) × (kept new ≡ drop (length buffer_old) (kept old))
    × (buffer_new ≡ with_front (kept old) buffer_old)
    × (report.length ≡ length (kept old)) × (report.written ≡ min (length (kept old)) (length buffer_old)) × (report.line ≡ 0)

-- what fetching leaves
abbrev pub FetchesKept : Option BufferedSession → List ℕ → Option BufferedSession → List ℕ → Report → ℕ → Type 0
FetchesKept None buffer_old new buffer_new report status = (new ≡ None) × (buffer_new ≡ buffer_old) × IsBlank report × (status ≡ 4)
FetchesKept (Some old) buffer_old new buffer_new report status =
    (session : BufferedSession) × (new ≡ Some session) × Fetches old buffer_old session buffer_new report × (status ≡ 0)

-- what a call without a handle leaves: nothing where memory is refused at once, else what a new session tells
abbrev pub Answers : List ℕ → List ℕ → List ℕ → Report → ℕ → Type 0
Answers text buffer_old buffer_new report status =
    ((buffer_new ≡ buffer_old) × IsBlank report × (status ≡ 3))
    ⊎ ((fresh : BufferedSession) × (session : BufferedSession) × IsNew fresh.session × Tells fresh text buffer_old session buffer_new report status)
