-- What the program writes and how it ends, for the lines that it is given.
use Rattle.hir_show_run.specs.Prelude.{ℕ, Bool, true, false, List, [], length, Option, None, Some, Result, Ok, Err, filter_map, fold, map, codes, list_all, list_any, lines, Line, Blank, Make, Ask, Bad, any_question, asks, line_of, makes, may_ask, Maker, is_second, Question, OfStore, OfBody, body_fault, contents_of, finish_fault}
use Rattle.std.specs.Prelude.{◌≡◌, ◌+◌, ◌&&◌, ◌||◌, ◌∷◌, ◌++◌, if◌then◌else◌}
use Rattle.hir_show_run.specs.declared.fault.RunFault.{RunFault}
use Rattle.hir_show_run.specs.declared.fault.RunFault.TheVariants.{BadLine, Refused, BodyRefused}
use Rattle.hir_show_run.specs.Parts.{Parts, no_parts, with_line, body_parts}
use Rattle.hir_show_run.specs.Answer.{IsStoreAnswer, IsAnswer}

-- a question on the store alone
abbrev pub is_of_store : Question → Bool
is_of_store (OfStore question) = true
is_of_store (OfBody question) = false

-- the elements before the first that fails the test, and the elements from it on
abbrev pub prefix : {X : Type 0} → (X → Bool) → List X → List X
prefix p [] = []
prefix p (x ∷ xs) = if p x then x ∷ prefix p xs else []

abbrev pub suffix : {X : Type 0} → (X → Bool) → List X → List X
suffix p [] = []
suffix p (x ∷ xs) = if p x then suffix p xs else x ∷ xs

-- how a run goes: what is written, and how it ends
abbrev pub Outcome : Type 0
Outcome = Result (Unit {0}) RunFault

abbrev pub Trace : Type 1
Trace = List ℕ → Outcome → Type 0

-- this is written, and the run ends in this way
abbrev pub writes : List ℕ → Outcome → Trace
writes bytes end text outcome = (text ≡ bytes) × (outcome ≡ end)

-- the first trace if the condition holds, else the second
abbrev pub if_so : Bool → Trace → Trace → Trace
if_so true trace other = trace
if_so false trace other = other

-- after this many good lines comes one that may not come there, or no line
abbrev pub stops : ℕ → List Line → Trace
stops good [] = writes [] (Ok tt)
stops good (bad ∷ rest) = writes [] (Err (BadLine (good + 1)))

-- the run ends with the first fault, if there is one; else it goes on
abbrev pub fault_or : {F : Type 0} → (F → RunFault) → Trace → Option F → Trace
fault_or refusal next None = next
fault_or refusal next (Some fault) = writes [] (Err (refusal fault))

abbrev pub unless_refused : {F : Type 0} → (Option F → Type 0) → (F → RunFault) → Trace → Trace
unless_refused {F} verdict refusal next text outcome =
    (fault : Option F) × verdict fault × fault_or refusal next fault text outcome

-- the answer of a line: an empty one has none
abbrev pub IsLineAnswer : (Question → List ℕ → Type 0) → Line → List ℕ → Type 0
IsLineAnswer Is Blank text = text ≡ []
IsLineAnswer Is (Make maker) text = ⊥
IsLineAnswer Is (Ask question) text = Is question text
IsLineAnswer Is Bad text = ⊥

-- the answers of these lines, in their order
abbrev pub AreAnswers : (Question → List ℕ → Type 0) → List Line → List ℕ → Type 0
AreAnswers Is [] text = text ≡ []
AreAnswers Is (line ∷ rest) text =
    (first more : List ℕ) × IsLineAnswer Is line first × AreAnswers Is rest more × (text ≡ first ++ more)

-- A section of questions, after this many good lines: those that may be asked are answered, as far as they
-- come. Then the run goes on
abbrev pub section : (Question → Bool) → (Question → List ℕ → Type 0) → (ℕ → List Line → Trace) → ℕ
    → List Line → Trace
section may Is next good script text outcome =
    (answers more : List ℕ) × AreAnswers Is (prefix (may_ask may) script) answers
    × next (good + length (prefix (may_ask may) script)) (suffix (may_ask may) script) more outcome
    × (text ≡ answers ++ more)

-- the section from the first question on the body on: the first fault of the body's parts is looked for, and
-- any question is answered
abbrev pub on_body : Parts → ℕ → List Line → Trace
on_body parts good script =
    unless_refused (body_fault (body_parts parts)) BodyRefused
    (section any_question (IsAnswer parts.name (body_parts parts)) stops good script)

abbrev pub after_store : Parts → ℕ → List Line → Trace
after_store parts good [] = stops good []
after_store parts good (line ∷ rest) =
    if_so (asks line) (on_body parts good (line ∷ rest)) (stops good (line ∷ rest))

-- the section from the first question on: the builder's first fault is looked for, and questions on the store
-- are answered
abbrev pub on_store : Parts → ℕ → List Line → Trace
on_store parts good script =
    unless_refused (finish_fault parts.built) Refused
    (section is_of_store (IsStoreAnswer (contents_of parts.built)) (after_store parts) good script)

-- after the lines that make something: this is the trace where no line is left
abbrev pub after_making : Trace → Parts → ℕ → List Line → Trace
after_making idle parts good [] = idle
after_making idle parts good (line ∷ rest) =
    if_so (asks line) (on_store parts good (line ∷ rest)) (stops good (line ∷ rest))

-- the lines before the first question
unfoldable pub making : List Line → List Line
making script = prefix makes script

abbrev pub maker_of : Line → Option Maker
maker_of Blank = None
maker_of (Make maker) = Some maker
maker_of (Ask question) = None
maker_of Bad = None

-- what these lines make, one after the other
unfoldable pub built_by : List Line → Parts
built_by script = fold with_line no_parts (filter_map maker_of script)

-- what the lines before the first question make
abbrev pub first_parts : List Line → Parts
first_parts script = built_by (making script)

-- the trace of a script, where this is the trace of one without a question and without a bad line
unfoldable pub ScriptRuns : Trace → List Line → Trace
ScriptRuns idle script = after_making idle (first_parts script) (length (making script)) (suffix makes script)

-- without a question the builder's first fault is looked for at the end
abbrev pub accepts : Parts → Trace
accepts parts = unless_refused (finish_fault parts.built) Refused (writes (codes "accepted\n") (Ok tt))

-- the text that a script has written, and its outcome
abbrev pub IsMeaning : List Line → Trace
IsMeaning script = ScriptRuns (accepts (first_parts script)) script

-- no fault comes in these lines, and this is the text of their answers; what comes after them is not looked
-- at
abbrev pub HasAnswers : List Line → List ℕ → Type 0
HasAnswers script text = ScriptRuns (writes [] (Ok tt)) script text (Ok tt)

-- whether a line gives the self parameter, which would be a second one where there was one before
abbrev pub gives_self : Line → Bool
gives_self Blank = false
gives_self (Make maker) = is_second true false maker
gives_self (Ask question) = false
gives_self Bad = false

abbrev pub gives_name : Line → Bool
gives_name Blank = false
gives_name (Make maker) = is_second false true maker
gives_name (Ask question) = false
gives_name Bad = false

-- a line, where a self parameter was given before or wasn't, and a name: a second one is bad
abbrev pub unless_second : Bool → Bool → Line → Line
unless_second has_self has_name Blank = Blank
unless_second has_self has_name (Make maker) = if is_second has_self has_name maker then Bad else Make maker
unless_second has_self has_name (Ask question) = Ask question
unless_second has_self has_name Bad = Bad

-- the lines, where a second self parameter and a second name are bad
abbrev pub once_each : Bool → Bool → List Line → List Line
once_each has_self has_name [] = []
once_each has_self has_name (line ∷ rest) =
    unless_second has_self has_name line
    ∷ once_each (has_self || gives_self line) (has_name || gives_name line) rest

-- what texts say, each for itself
abbrev pub says : List (List ℕ) → List Line
says texts = map line_of texts

abbrev pub script : List (List ℕ) → List Line
script texts = once_each false false (says texts)

-- what a text says after these texts
abbrev pub line_after : List (List ℕ) → List ℕ → Line
line_after texts text =
    unless_second (list_any gives_self (says texts)) (list_any gives_name (says texts)) (line_of text)

-- whether a line may come after these: one that asks, or one that makes something where only such lines came
-- before
abbrev pub may_come : List Line → Line → Bool
may_come before line = asks line || (makes line && list_all makes before)

-- the lines that an input spells
abbrev pub script_of : List ℕ → List Line
script_of input = script (lines input)
