-- What a run comes to once what waits was written, or its write failed; and which end has failed.
use Rattle.std.proofs.Common.{◌≡◌, ℕ, Bool, true, false, List, [], ◌++◌, Option, None, Some, Ok, Err, inl, inr, refl, sym, ap, ◌∙◌, subst, append_assoc, ◌||◌}
use Rattle.std.specs.Io.KnownBytes.{Appends}
use Rattle.std.proofs.Math.Bool.{or-false}
use Rattle.hir_show_io.specs.Effects.{AppendsPrefix}
use Rattle.hir_show_io.specs.declared.next.LineFault.{LineFault}
use Rattle.hir_show_io.specs.declared.next.LineFault.TheVariants as line
use Rattle.hir_show_io.specs.NextLine.{NextWrites}
use Rattle.hir_show_io.specs.Text.{lines, IsCutShort}
use Rattle.hir_show_io.proofs.EndLemmas.{Appends-twice, AppendsPrefix-after}
use Rattle.hir_show_io.proofs.TextLemmas.{lines-ended}
use Rattle.hir_show_grammar.specs.declared.question.Question.{Question}
use Rattle.hir_body.specs.Bodies.{BodyContents}
use Rattle.hir_show_run.specs.declared.fault.RunFault.{RunFault}
use Rattle.hir_show_run.specs.declared.fault.RunFault.TheVariants.{BadLine, Refused, BodyRefused, InputFailed, OutputFailed, OutOfMemory}
use Rattle.hir_show_run.specs.Faults.{fault_of_line}
use Rattle.hir_show_run.specs.Outcomes.{is_input_failed, is_output_failed}
use Rattle.hir_show_run.specs.internal.Output.{Output, Wrote, WrotePrefix}
use Rattle.hir_show_run.specs.Parts.{Parts}
use Rattle.hir_show_run.specs.internal.RunStates.{RunState}
use Rattle.hir_show_run.specs.Program.{Outcome}
use Rattle.hir_show_run.specs.Run.{EndsWith, RunsTo}
use Rattle.hir_show_run.specs.internal.Stages.{Builds, IsBodyOf, Accepts, RunsUpTo, Closes}

-- what waited was written too, of a run that began where nothing waited
then_all_waiting : (start p : Output) (new : Option (List ℕ)) (text : List ℕ) → start.waiting ≡ [] → Wrote start p text → Appends p.contents new p.waiting → Appends start.contents new text
then_all_waiting start p new text none w a =
    subst (λ (x : List ℕ). Appends start.contents new (x ++ text)) none (subst (λ (x : List ℕ). Appends start.contents new x) (sym w.1) (Appends-twice start.contents p.contents new w.0 p.waiting w.2 a))

-- a write of what waited failed
then_some_waiting : (start p : Output) (new : Option (List ℕ)) (text : List ℕ) → start.waiting ≡ [] → Wrote start p text → AppendsPrefix p.contents new p.waiting → AppendsPrefix start.contents new text
then_some_waiting start p new text none w g =
    subst (λ (x : List ℕ). AppendsPrefix start.contents new (x ++ text)) none (subst (λ (x : List ℕ). AppendsPrefix start.contents new x) (sym w.1) (AppendsPrefix-after start.contents p.contents new w.0 p.waiting w.2 g))

-- a prefix of the text, where nothing waited
prefix : (start p : Output) (text : List ℕ) → start.waiting ≡ [] → WrotePrefix start p text → AppendsPrefix start.contents p.contents text
prefix start p text none g = subst (λ (x : List ℕ). AppendsPrefix start.contents p.contents (x ++ text)) none g.0

-- all lines of an input that was cut short
first_lines : (input : List ℕ) (texts : List (List ℕ)) (begun unread : List ℕ) → IsCutShort input texts begun unread → lines input ≡ texts ++ lines (begun ++ unread)
first_lines input texts begun unread short =
    ap lines (short.whole ∙ append_assoc _ begun unread) ∙ lines-ended texts (begun ++ unread) short.each

module _ (input : List ℕ) (start : Output) (p : RunState) (new : Option (List ℕ)) (fresh : start.waiting ≡ []) where
  abbrev Before : Outcome → Type 0
  Before outcome = EndsWith input (Wrote start p.output) (WrotePrefix start p.output) p.remaining p.lines outcome

  abbrev After : Outcome → Type 0
  After outcome = EndsWith input (Appends start.contents new) (AppendsPrefix start.contents new) p.remaining p.lines outcome

  closes_well : (outcome : Outcome) → Before outcome → Appends p.output.contents new p.output.waiting → (p.output.waiting ≡ [] → new ≡ p.output.contents) → After outcome
  closes_well (Ok done) (text, means, w) a idle = (text, means, then_all_waiting start p.output new text fresh w a)
  closes_well (Err (BadLine n)) (text, means, w) a idle = (text, means, then_all_waiting start p.output new text fresh w a)
  closes_well (Err (Refused fault)) (text, means, w) a idle = (text, means, then_all_waiting start p.output new text fresh w a)
  closes_well (Err (BodyRefused fault)) (text, means, w) a idle = (text, means, then_all_waiting start p.output new text fresh w a)
  closes_well (Err InputFailed) (texts, begun, unread, short, left, text, has, w) a idle =
      (texts, begun, unread, short, left, text, has, then_all_waiting start p.output new text fresh w a)
  closes_well (Err OutputFailed) (text, of, (grows, none)) a idle =
      (text, of, subst (λ (v : Option (List ℕ)). AppendsPrefix start.contents v text) (sym (idle none)) (prefix start p.output text fresh (grows, none)))
  closes_well (Err OutOfMemory) (texts, more, every, at, text, has, w) a idle =
      (texts, more, every, at, text, has, then_all_waiting start p.output new text fresh w a)

  closes_ill : (outcome : Outcome) → Before outcome → AppendsPrefix p.output.contents new p.output.waiting → (p.output.waiting ≡ [] → ⊥) → After (Err OutputFailed)
  closes_ill (Ok done) (text, means, w) g some = (text, inr (Ok done, means), then_some_waiting start p.output new text fresh w g)
  closes_ill (Err (BadLine n)) (text, means, w) g some = (text, inr (_, means), then_some_waiting start p.output new text fresh w g)
  closes_ill (Err (Refused fault)) (text, means, w) g some = (text, inr (_, means), then_some_waiting start p.output new text fresh w g)
  closes_ill (Err (BodyRefused fault)) (text, means, w) g some = (text, inr (_, means), then_some_waiting start p.output new text fresh w g)
  closes_ill (Err InputFailed) (texts, begun, unread, short, left, text, has, w) g some =
      (text, inl (texts, lines (begun ++ unread), first_lines input texts begun unread short, has), then_some_waiting start p.output new text fresh w g)
  closes_ill (Err OutputFailed) (text, of, (grows, none)) g some = absurd (some none)
  closes_ill (Err OutOfMemory) (texts, more, every, at, text, has, w) g some =
      (text, inl (texts, more, every, has), then_some_waiting start p.output new text fresh w g)

pub closes : (known : Option (List ℕ)) (start : Output) (p : RunState) (new : Option (List ℕ)) (outcome result : Outcome) → start.waiting ≡ [] → RunsUpTo known start p outcome → Closes p.output.contents new p.output.waiting outcome result → RunsTo known start.contents p.remaining new p.lines result
closes None start p new outcome result fresh r c = tt
closes (Some input) start p new outcome result fresh r (inl (same, a, idle)) = rw same (closes_well input start p new fresh outcome r a idle)
closes (Some input) start p new outcome result fresh r (inr (same, g, some)) = rw same (closes_ill input start p new fresh outcome r g some)

-- a fault is told of a run as it is of a part
pub reads_as : (X Y : Type 0) (e : RunFault) → is_input_failed {X = X} (Err e) ≡ is_input_failed {X = Y} (Err e)
reads_as X Y (BadLine n) = refl
reads_as X Y (Refused fault) = refl
reads_as X Y (BodyRefused fault) = refl
reads_as X Y InputFailed = refl
reads_as X Y OutputFailed = refl
reads_as X Y OutOfMemory = refl

-- the lines that make are read, and nothing is written
pub build_writes_none : (X : Type 0) (known : Option (List ℕ)) (now : RunState) (parts : Parts) (e : RunFault) → Builds known now parts (Err e) → is_output_failed {X = X} (Err e) ≡ false
build_writes_none X known now parts (BadLine n) b = refl
build_writes_none X known now parts InputFailed b = refl
build_writes_none X known now parts OutOfMemory b = refl
build_writes_none X known now parts OutputFailed b = absurd b
build_writes_none X known now parts (Refused fault) b = absurd b
build_writes_none X known now parts (BodyRefused fault) b = absurd b

-- what was made is tested, and nothing is read or written
pub body_reads_none : (X : Type 0) (parts : BodyContents) (e : RunFault) → IsBodyOf parts (Err e) → (is_input_failed {X = X} (Err e) ≡ false) × (is_output_failed {X = X} (Err e) ≡ false)
body_reads_none X parts (Refused fault) m = (refl, refl)
body_reads_none X parts (BodyRefused fault) m = (refl, refl)
body_reads_none X parts OutOfMemory m = (refl, refl)
body_reads_none X parts (BadLine n) m = absurd m
body_reads_none X parts InputFailed m = absurd m
body_reads_none X parts OutputFailed m = absurd m

pub accept_reads_none : (old new : Output) (outcome : Outcome) → Accepts old new outcome → is_input_failed outcome ≡ false
accept_reads_none old new (Ok done) a = refl
accept_reads_none old new (Err OutputFailed) a = refl
accept_reads_none old new (Err OutOfMemory) a = absurd a
accept_reads_none old new (Err InputFailed) a = absurd a
accept_reads_none old new (Err (BadLine n)) a = absurd a
accept_reads_none old new (Err (Refused fault)) a = absurd a
accept_reads_none old new (Err (BodyRefused fault)) a = absurd a

-- the end of one part, where the part before it had no failure
pub none_before : (now old : Bool) (failed : Bool) → now ≡ (failed || old) → old ≡ false → now ≡ failed
none_before now old failed is none = is ∙ ap (λ b. failed || b) none ∙ or-false failed

-- what waits can't be lost after a failed read
pub closes_reads : (old new : Option (List ℕ)) (waiting : List ℕ) (outcome result : Outcome) → Closes old new waiting outcome result → (is_input_failed outcome ≡ true → waiting ≡ []) → is_input_failed outcome ≡ is_input_failed result
closes_reads old new waiting outcome result (inl c) quiet = ap (λ (r : Outcome). is_input_failed r) (sym c.0)
closes_reads old new waiting outcome result (inr c) quiet =
    by_mark (is_input_failed outcome) (λ e. c.2 (quiet e)) ∙ ap (λ (r : Outcome). is_input_failed r) (sym c.0)
  where
    by_mark : (b : Bool) → (b ≡ true → ⊥) → b ≡ false
    by_mark true h = absurd (h refl)
    by_mark false h = refl

-- where a read fails, nothing waits
pub next_reads : (old new : Output) (fault : LineFault) → NextWrites old.contents new.contents old.waiting new.waiting (Err fault) → is_input_failed {X = Option Question} (Err (fault_of_line fault)) ≡ true → new.waiting ≡ []
next_reads old new line.OutOfMemory w h = cc
next_reads old new line.InputFailed w h = w.1
next_reads old new line.OutputFailed w h = cc
