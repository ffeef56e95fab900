-- What the parts of a run do, from one place to another: lines that make something, then sections of
-- questions.
use Rattle.std.specs.Prelude.{◌≡◌, ◌≢◌, ◌⊎◌, ◌+◌, ◌∷◌, ◌++◌}
use Rattle.hir_show_run.specs.Prelude.{ℕ, Bool, true, false, List, [], length, Option, None, Some, Result, Err, IfSome, ⊤, codes, Appends, list_all, LineState, ReadsLines, ReadsAll, ReadsPrefix, ReadsUntilFailure, AppendsPrefix, Line, Blank, Make, Ask, Bad, asks, line_of, makes, may_ask, Maker, line_asked, Question, FinishFault, BodyFault, BodyContents, body_fault, Contents, Building, contents_of, finish_fault}
use Rattle.hir_show_run.specs.declared.fault.RunFault.{RunFault}
use Rattle.hir_show_run.specs.declared.fault.RunFault.TheVariants.{Refused, BodyRefused, OutputFailed}
use Rattle.hir_show_run.specs.Parts.{Parts, with_line}
use Rattle.hir_show_run.specs.internal.Parts.{is_second}
use Rattle.hir_show_run.specs.Outcomes.{Outcomes}
use Rattle.hir_show_run.specs.internal.Output.{Output, Wrote, WrotePrefix, PutsText}
use Rattle.hir_show_run.specs.internal.RunStates.{RunState, unread}
use Rattle.hir_show_run.specs.Run.{EndsWith}
use Rattle.hir_show_run.specs.Program.{Outcome, line_after, says, script, built_by, IsLineAnswer, AreAnswers}

-- each of these lines may come before the first question
abbrev pub AllMake : List (List ℕ) → Type 0
AllMake texts = list_all makes (script texts) ≡ true

-- each of these lines may come before the first question, and these are the parts that they make
abbrev pub Makes : List (List ℕ) → Parts → Type 0
Makes texts parts = AllMake texts × (parts ≡ built_by (script texts))

-- an allocation fails at the line that was taken last, after these and so many before, and that line may come
-- there; or, where none was taken last since the next was being read, after these lines
abbrev pub OutOfMemoryAt : (List ℕ → Type 0) → ℕ → Option (List ℕ) → List (List ℕ) → List ℕ → ℕ → Type 0
OutOfMemoryAt MayCome before known texts [] count = ReadsPrefix known texts × (count ≡ before + length texts)
OutOfMemoryAt MayCome before known texts (b ∷ bs) count =
    ReadsPrefix known (texts ++ (b ∷ bs) ∷ []) × (count ≡ before + length texts + 1) × MayCome (b ∷ bs)

-- nothing was asked, or a question after these texts
abbrev pub BuildsUpTo : Option (List ℕ) → RunState → Parts → Option Question → Type 0
BuildsUpTo known now parts None =
    (texts : List (List ℕ)) × Makes texts parts × ReadsAll known texts
    × (now.lines.line ≡ []) × (now.lines.count ≡ length texts)
BuildsUpTo known now parts (Some question) =
    (texts : List (List ℕ)) × Makes texts parts × (line_of now.lines.line ≡ Ask question)
    × ReadsLines known (texts ++ now.lines.line ∷ []) (unread now) now.lines.at_end
    × (now.lines.count ≡ length texts + 1)

-- what the lines before the first question do: the bytes that are known, and the parts that they make
abbrev pub Builds : Option (List ℕ) → RunState → Parts → Result (Option Question) RunFault → Type 0
Builds known now parts result =
    Outcomes (BuildsUpTo known now parts)
    (λ number. (texts : List (List ℕ)) × (text : List ℕ) × AllMake texts × (line_after texts text ≡ Bad)
    × ReadsPrefix known (texts ++ text ∷ []) × (number ≡ length texts + 1))
    (λ fault. ⊥)
    ((texts : List (List ℕ)) × AllMake texts × ReadsUntilFailure known texts now.lines.pending now.remaining)
    ⊥
    ((texts : List (List ℕ)) × AllMake texts
    × OutOfMemoryAt (λ text. line_after texts text ≢ Bad) 0 known texts now.lines.line now.lines.count)
    result

-- the line is empty or makes something; or it does neither, and is left
abbrev pub MakesOrLeaves : Line → Parts → Parts → Bool → Type 0
MakesOrLeaves line old new true =
    ((line ≡ Blank) × (new ≡ old))
    ⊎ ((maker : Maker) × (line ≡ Make maker) × (is_second old maker ≡ false) × (new ≡ with_line old maker))
MakesOrLeaves line old new false = (makes line ≡ false) × (new ≡ old)

-- what the line that was taken last does, to what was made before it
abbrev pub BuildsLine : LineState → Parts → Parts → Result Bool RunFault → Type 0
BuildsLine lines old new result =
    Outcomes (MakesOrLeaves (line_of lines.line) old new)
    (λ number. ((line_of lines.line ≡ Bad)
    ⊎ ((maker : Maker) × (line_of lines.line ≡ Make maker) × (is_second old maker ≡ true)))
    × (number ≡ lines.count))
    (λ fault. ⊥) ⊥ ⊥
    ((maker : Maker) × (line_of lines.line ≡ Make maker) × (is_second old maker ≡ false)) result

-- what the line that was taken last asks, where it makes nothing
abbrev pub IsAsked : LineState → Result (Option Question) RunFault → Type 0
IsAsked lines result =
    Outcomes (λ asked. line_of lines.line ≡ line_asked asked)
    (λ number. (asks (line_of lines.line) ≡ false) × (number ≡ lines.count)) (λ fault. ⊥) ⊥ ⊥
    ((question : Question) × (line_of lines.line ≡ Ask question)) result

-- what a builder gives: its store; or it has this first fault, or an allocation fails
abbrev pub Finishes : Building → Result Contents RunFault → Type 0
Finishes built result =
    Outcomes (λ store. (store ≡ contents_of built) × finish_fault built None) (λ number. ⊥)
    (λ fault. (first : FinishFault) × (fault ≡ Refused first) × finish_fault built (Some first)) ⊥ ⊥ ⊤ result

-- what the parts of a body give: the body; or they have this first fault, or an allocation fails
abbrev pub IsBodyOf : BodyContents → Result BodyContents RunFault → Type 0
IsBodyOf parts result =
    Outcomes (λ body. (body ≡ parts) × body_fault parts None) (λ number. ⊥)
    (λ fault. (first : BodyFault) × (fault ≡ BodyRefused first) × body_fault parts (Some first)) ⊥ ⊥ ⊤ result

-- these lines may be asked, and this is the text of their answers
abbrev pub HaveAnswers : (Question → Bool) → (Question → List ℕ → Type 0) → List Line → List ℕ → Type 0
HaveAnswers may Is script text = (list_all (may_ask may) script ≡ true) × AreAnswers Is script text

-- the lines of a section that begins with a question
abbrev pub section_from : Question → List (List ℕ) → List Line
section_from first texts = Ask first ∷ says texts

-- a section of questions, by which may be asked in it and what their answers are
module _ (may : Question → Bool) (Is : Question → List ℕ → Type 0) where
  -- what a question does: it is answered by one line, put after what waits; or it may not be asked here, and
  -- is given back
  abbrev pub Replies : Question → Output → Output → Option Question → Type 0
  Replies question old new None =
      (may question ≡ true) × (text : List ℕ) × Is question text × PutsText old new text
  Replies question old new (Some other) = (may question ≡ false) × (other ≡ question) × (new ≡ old)

  -- a line that may be asked was answered, or its question may not be asked here, and is given back
  abbrev pub TakesLine : Line → Output → Output → Option Question → Type 0
  TakesLine line old new None =
      (may_ask may line ≡ true) × (text : List ℕ) × IsLineAnswer Is line text × Wrote old new text
  TakesLine line old new (Some question) = (may question ≡ false) × (line ≡ Ask question) × (new ≡ old)

  -- what a line of this number does
  abbrev pub AsksLine : Line → ℕ → Output → Output → Result (Option Question) RunFault → Type 0
  AsksLine line count old new result =
      Outcomes (TakesLine line old new)
      (λ number. (asks line ≡ false) × (number ≡ count) × (new ≡ old)) (λ fault. ⊥) ⊥
      ((may_ask may line ≡ true) × (text : List ℕ) × IsLineAnswer Is line text × WrotePrefix old new text)
      ((question : Question) × (line ≡ Ask question) × (new ≡ old)) result

  -- these lines were answered; of the answers only what waits now isn't written yet
  abbrev pub Answered : List Line → Output → Output → Type 0
  Answered script old new = (text : List ℕ) × HaveAnswers may Is script text × Wrote old new text

  -- all lines that are left were answered; or all before a question that may not be asked here, the first or
  -- a later one
  abbrev pub AsksUpTo : RunState → RunState → Question → Option Question → Type 0
  AsksUpTo old new first None =
      (texts : List (List ℕ)) × Answered (section_from first texts) old.output new.output
      × ReadsAll (unread old) texts × (new.lines.count ≡ old.lines.count + length texts)
  AsksUpTo old new first (Some question) =
      (may question ≡ false)
      × (((question ≡ first) × (new ≡ old))
      ⊎ ((texts : List (List ℕ)) × (text : List ℕ) × Answered (section_from first texts) old.output new.output
      × (text ≡ new.lines.line) × (line_of text ≡ Ask question)
      × ReadsLines (unread old) (texts ++ text ∷ []) (unread new) new.lines.at_end
      × (old.lines.at_end ≡ true → new.lines.at_end ≡ true)
      × (new.lines.count ≡ old.lines.count + length texts + 1)))

  -- a section from its first question on
  abbrev pub Asks : RunState → RunState → Question → Result (Option Question) RunFault → Type 0
  Asks old new first result =
      Outcomes (AsksUpTo old new first)
      (λ number. (texts : List (List ℕ)) × (text : List ℕ)
      × Answered (section_from first texts) old.output new.output × (asks (line_of text) ≡ false)
      × ReadsPrefix (unread old) (texts ++ text ∷ []) × (number ≡ old.lines.count + length texts + 1))
      (λ fault. ⊥)
      ((texts : List (List ℕ)) × Answered (section_from first texts) old.output new.output
      × (old.lines.at_end ≡ false) × ReadsUntilFailure (unread old) texts new.lines.pending new.remaining)
      ((texts : List (List ℕ)) × (text : List ℕ) × HaveAnswers may Is (section_from first texts) text
      × ReadsPrefix (unread old) texts × WrotePrefix old.output new.output text)
      (((texts : List (List ℕ)) × Answered (section_from first texts) old.output new.output
      × OutOfMemoryAt (λ text. asks (line_of text) ≡ true) old.lines.count (unread old) texts
      new.lines.line new.lines.count)
      ⊎ (new ≡ old))
      result

-- that the store is accepted was written, but for what waits; or a prefix of it was written
abbrev pub Accepts : Output → Output → Result (Unit {0}) RunFault → Type 0
Accepts old new result =
    Outcomes (λ done. Wrote old new (codes "accepted\n")) (λ number. ⊥) (λ fault. ⊥) ⊥
    (WrotePrefix old new (codes "accepted\n")) ⊥ result

-- a run over the bytes that are known, of whose output some may wait
abbrev pub RunsUpTo : Option (List ℕ) → Output → RunState → Outcome → Type 0
RunsUpTo known old now outcome =
    IfSome known
    (λ input. EndsWith input (Wrote old now.output)
    (WrotePrefix old now.output) now.remaining now.lines outcome)

-- what waited was written and the outcome stays, or its write failed
abbrev pub Closes : Option (List ℕ) → Option (List ℕ) → List ℕ → Outcome → Outcome → Type 0
Closes old new waiting outcome result =
    ((result ≡ outcome) × Appends old new waiting × (waiting ≡ [] → new ≡ old))
    ⊎ ((result ≡ Err OutputFailed) × AppendsPrefix old new waiting × (waiting ≡ [] → ⊥))
