-- How a run of the program ends, with the bytes that it leaves unread and those that it has written.
use Rattle.std.specs.Prelude.{◌≡◌, ◌⊎◌, ◌+◌, ◌∷◌, ◌++◌}
use Rattle.hir_show_run.specs.Prelude.{ℕ, true, false, List, [], length, Option, Ok, Err, IfSome, Appends, AppendsPrefix, LineState, lines, IsCutShort}
use Rattle.hir_show_io.specs.declared.ends.Source as source
use Rattle.hir_show_io.specs.declared.ends.Sink as sink
use Rattle.hir_show_run.specs.declared.fault.RunFault.TheVariants.{BadLine}
use Rattle.hir_show_run.specs.Outcomes.{Outcomes, is_input_failed, is_output_failed}
use Rattle.hir_show_run.specs.Program.{Outcome, script, script_of, line_after, may_come, IsMeaning, HasAnswers}

-- the program's own output and ending; `Wrote` says what it is that a text was written
abbrev pub IsComplete : List ℕ → (List ℕ → Type 0) → Outcome → Type 0
IsComplete input Wrote outcome = (text : List ℕ) × IsMeaning (script_of input) text outcome × Wrote text

-- a read failed: the answers of the whole lines read before are written, and no fault comes in these
abbrev pub IsInputCutShort : List ℕ → (List ℕ → Type 0) → Option (List ℕ) → Type 0
IsInputCutShort input Wrote remaining =
    (texts : List (List ℕ)) × (begun unread : List ℕ) × IsCutShort input texts begun unread
    × IfSome remaining (λ rest. rest ≡ unread)
    × (text : List ℕ) × HasAnswers (script texts) text × Wrote text

-- these are the answers of some first lines, in which no fault comes
abbrev pub AreFirstAnswers : List ℕ → List ℕ → Type 0
AreFirstAnswers input text =
    (texts more : List (List ℕ)) × (lines input ≡ texts ++ more) × HasAnswers (script texts) text

-- a write failed: a prefix is written of the answers of some first lines, or of the whole output
abbrev pub IsOutputCutShort : List ℕ → (List ℕ → Type 0) → Type 0
IsOutputCutShort input WrotePrefix =
    (text : List ℕ)
    × (AreFirstAnswers input text ⊎ ((outcome : Outcome) × IsMeaning (script_of input) text outcome))
    × WrotePrefix text

-- These are the lines before the one at which an allocation fails, by the line taken last and the number of
-- those taken. It fails at that line, which may come there; or, where none was taken last since the next was
-- being read or the input had ended, after all of them
abbrev pub IsRefusedAfter : List (List ℕ) → List (List ℕ) → List ℕ → ℕ → Type 0
IsRefusedAfter texts more [] count = count ≡ length texts
IsRefusedAfter texts more (b ∷ bs) count =
    (count ≡ length texts + 1) × (rest : List (List ℕ)) × (more ≡ (b ∷ bs) ∷ rest)
    × (may_come (script texts) (line_after texts (b ∷ bs)) ≡ true)

-- an allocation fails at some line: the answers of all lines before it are written, and no fault comes in
-- these
abbrev pub IsWithoutMemory : List ℕ → (List ℕ → Type 0) → LineState → Type 0
IsWithoutMemory input Wrote taken =
    (texts more : List (List ℕ)) × (lines input ≡ texts ++ more)
    × IsRefusedAfter texts more taken.line taken.count
    × (text : List ℕ) × HasAnswers (script texts) text × Wrote text

-- how a run over this input ends, where these lines were taken
abbrev pub EndsWith : List ℕ → (List ℕ → Type 0) → (List ℕ → Type 0) → Option (List ℕ) → LineState
    → Outcome → Type 0
EndsWith input Wrote WrotePrefix remaining taken outcome =
    Outcomes (λ done. IsComplete input Wrote (Ok done))
    (λ number. IsComplete input Wrote (Err (BadLine number)))
    (λ fault. IsComplete input Wrote (Err fault)) (IsInputCutShort input Wrote remaining)
    (IsOutputCutShort input WrotePrefix) (IsWithoutMemory input Wrote taken) outcome

-- what a run does over the bytes that its source shows, where these lines were taken, to those that its sink
-- shows
abbrev pub RunsTo : Option (List ℕ) → Option (List ℕ) → Option (List ℕ) → Option (List ℕ) → LineState
    → Outcome → Type 0
RunsTo known old remaining new taken outcome =
    IfSome known (λ input. EndsWith input (Appends old new) (AppendsPrefix old new) remaining taken outcome)

-- a reader of lines that has taken none
abbrev pub no_lines : LineState
no_lines = record { line = []; pending = []; at_end = false; count = 0 }

-- neither a read nor a write has failed
abbrev pub Unfailed : {R W : Type 0} → source.Ghosts R → sink.Ghosts W → R → W → Type 0
Unfailed r w reader writer = (r.is_failed reader ≡ false) × (w.is_failed writer ≡ false)

-- what a run does from one source and sink to another, where these lines were taken: one of them has failed
-- where the outcome says so
abbrev pub IsRun : {R W : Type 0} → source.Ghosts R → sink.Ghosts W → R → R → W → W → LineState
    → Outcome → Type 0
IsRun r w reader reader' writer writer' taken outcome =
    RunsTo (r.remaining reader) (w.contents writer) (r.remaining reader') (w.contents writer') taken outcome
    × (r.is_failed reader' ≡ is_input_failed outcome) × (w.is_failed writer' ≡ is_output_failed outcome)
