-- How a text is taken line by line: what state comes of it, and which answers.
use Rattle.std.specs.Prelude.{◌≡◌, ℕ, ◌+◌, ◌-◌, ◌^◌, min, Bool, false, cond, List, [], ◌∷◌, ◌++◌, None, Some, Result, Ok, Err, ◌⊎◌}
use Rattle.hir_text_words.specs.declared.text_error.TextError.{TextError}
use Rattle.hir_text_words.specs.declared.text_error.TextError.TheVariants as stop
use Rattle.hir_text_words.specs.declared.lines.Outcome.{Outcome}
use Rattle.hir_text_words.specs.declared.lines.Outcome.TheVariants as outcome
use Rattle.hir_text_words.specs.AnswerLines.{answer_lines, text_lines}
use Rattle.hir_text_words.specs.Line.{Taken}

-- the number of the next line
abbrev pub next_number : ℕ → ℕ
next_number n = min (n + 1) (2 ^ 64 - 1)

-- how the lines up to this one were taken, where the question in it was refused or not
abbrev pub after_answer : Outcome → ℕ → Bool → Outcome
after_answer outcome.Answered n is_refusal = cond is_refusal (outcome.Refused n) outcome.Answered
after_answer (outcome.Refused first) n is_refusal = outcome.Refused first
after_answer (outcome.BadLine line) n is_refusal = outcome.BadLine line
after_answer outcome.Memory n is_refusal = outcome.Memory

-- what a line that was taken adds to the answers, and what is returned: whether it was refused, or why it wasn't
-- taken. Where memory is refused to the answer, nothing of it is added
abbrev pub Adds : Taken → List ℕ → List ℕ → Result Bool TextError → Type 0
Adds (Ok None) old new result = (new ≡ old) × (result ≡ Ok false)
Adds (Ok (Some answer)) old new result =
    ((new ≡ old ++ answer_lines answer) × (result ≡ Ok answer.is_refusal)) ⊎ ((new ≡ old) × (result ≡ Err stop.Memory))
Adds (Err why) old new result = (new ≡ old) × (result ≡ Err why)

module _ {S : Type 0} (takes : S → List ℕ → S → Taken → Type 0) where
  -- the line is taken in the first state, of which the second comes, and its answer is added
  abbrev pub DoesLine : S → List ℕ → S → List ℕ → List ℕ → Result Bool TextError → Type 0
  DoesLine old line new answers_old answers_new result =
      (taken : Taken) × takes old line new taken × Adds taken answers_old answers_new result

  -- what follows the line of this number, of which this state and these answers came: the lines after it, of
  -- which `On` says what comes, or the end
  abbrev pub GoesOn : ℕ → Outcome → S → List ℕ → Result Bool TextError → (Outcome → Type 0) → S → List ℕ → Outcome → Type 0
  GoesOn n so_far after written (Ok is_refusal) On new all result = On (after_answer so_far n is_refusal)
  GoesOn n so_far after written (Err stop.Syntax) On new all result = (new ≡ after) × (all ≡ written) × (result ≡ outcome.BadLine n)
  GoesOn n so_far after written (Err stop.Memory) On new all result = (new ≡ after) × (all ≡ written) × (result ≡ outcome.Memory)

  -- the lines, of which the first has this number, are taken one after the other from this state and these
  -- answers on, until one is bad or memory is refused: this state, these answers and this outcome come of it
  abbrev pub TakesLines : ℕ → Outcome → S → List ℕ → List (List ℕ) → S → List ℕ → Outcome → Type 0
  TakesLines n so_far state answers [] new all result = (new ≡ state) × (all ≡ answers) × (result ≡ so_far)
  TakesLines n so_far state answers (line ∷ lines) new all result =
      (after : S) × (written : List ℕ) × (done : Result Bool TextError) × DoesLine state line after answers written done
      × GoesOn n so_far after written done (λ further. TakesLines (next_number n) further after written lines new all result) new all result

  -- the same of all lines of a text, from no answers on
  abbrev pub TakesText : S → List ℕ → S → List ℕ → Outcome → Type 0
  TakesText old text new answers result = TakesLines 1 outcome.Answered old [] (text_lines text) new answers result
