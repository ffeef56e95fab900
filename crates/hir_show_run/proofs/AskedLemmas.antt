-- What is answered in a section of questions, line by line.
use Rattle.std.proofs.Common.{◌≡◌, ◌+◌, ℕ, Bool, true, false, List, [], ◌∷◌, ◌++◌, Option, None, Some, is_some, subst, ◌&&◌, Ok, Err, length, inl, inr, refl, sym, ap, ◌∙◌, arith, append_assoc, append-nil}
use Rattle.std.specs.List.{list_all}
use Rattle.std.proofs.lemmas.List.Folds.{list_all-append}
use Rattle.hir_show_io.specs.declared.next.LineFault.{LineFault}
use Rattle.hir_show_io.specs.declared.next.LineFault.TheVariants as line
use Rattle.hir_show_io.specs.Effects.{IsWrittenUpTo}
use Rattle.hir_show_io.specs.LineState.{LineState}
use Rattle.hir_show_io.specs.Reads.{ReadsLines, ReadsPrefix}
use Rattle.hir_show_io.proofs.ReadLemmas.{ReadsLines-none, ReadsLines-more, ReadsPrefix-now, ReadsUntilFailure-now}
use Rattle.hir_show_grammar.specs.Line.{Line, Ask, line_of, may_ask, asks}
use Rattle.hir_show_grammar.specs.declared.question.Question.{Question}
use Rattle.hir_show_run.specs.declared.fault.RunFault.{RunFault}
use Rattle.hir_show_run.specs.declared.fault.RunFault.TheVariants.{BadLine, Refused, BodyRefused, InputFailed, OutputFailed, OutOfMemory}
use Rattle.hir_show_run.specs.Faults.{fault_of_line}
use Rattle.hir_show_run.specs.internal.Output.{Output, Wrote}
use Rattle.hir_show_run.specs.Outcomes.{is_input_failed, is_output_failed}
use Rattle.hir_show_run.specs.internal.RunStates.{RunState, TakesNext, unread}
use Rattle.hir_show_run.specs.Program.{IsLineAnswer, AreAnswers}
use Rattle.hir_show_run.specs.internal.Stages.{IsAsked, TakesLine, AsksLine, section_from, HaveAnswers, Answered, AsksUpTo, Asks}
use Rattle.hir_show_run.proofs.Refusals.{after_line, after_none, some_text}
use Rattle.hir_show_run.proofs.Scripts.{says-push}
use Rattle.hir_show_run.proofs.WritingLemmas.{Wrote-then, WrotePrefix-then, all_written, cut, rest_waits}

-- a line that isn't read as a question ends no end of the run
pub asked_marks_none : (X : Type 0) (lines : LineState) (fault : RunFault) → IsAsked lines (Err fault) → (is_input_failed {X = X} (Err fault) ≡ false) × (is_output_failed {X = X} (Err fault) ≡ false)
asked_marks_none X lines (BadLine number) a = (refl, refl)
asked_marks_none X lines OutOfMemory a = (refl, refl)
asked_marks_none X lines InputFailed a = absurd a
asked_marks_none X lines OutputFailed a = absurd a
asked_marks_none X lines (Refused fault) a = absurd a
asked_marks_none X lines (BodyRefused fault) a = absurd a

-- so far these lines were read, and the section that begins with the first question was answered
abbrev pub SoFar : (Question → Bool) → (Question → List ℕ → Type 0) → Question → RunState → RunState → Type 0
SoFar may Is first start now =
    (texts : List (List ℕ)) × Answered may Is (section_from first texts) start.output now.output
    × ReadsLines (unread start) texts (unread now) now.lines.at_end × (now.lines.count ≡ start.lines.count + length texts)

-- the end isn't met now, so it wasn't before
unmet_then : (was now : Bool) → (was ≡ true → now ≡ true) → now ≡ false → was ≡ false
unmet_then false now stays unmet = refl
unmet_then true now stays unmet = cc (stays refl)

answers_push : (Is : Question → List ℕ → Type 0) (ls : List Line) (line : Line) (answers text : List ℕ) → AreAnswers Is ls answers → IsLineAnswer Is line text → AreAnswers Is (ls ++ line ∷ []) (answers ++ text)
answers_push Is [] line answers text are is = rw are (text, [], is, refl, sym (append-nil text))
answers_push Is (l ∷ ls) line answers text (first, more, at_first, rest, e) is =
    (first, more ++ text, at_first, answers_push Is ls line more text rest is, ap (λ v. v ++ text) e ∙ append_assoc first more text)

both_so : (a b : Bool) → a ≡ true → b ≡ true → (a && (b && true)) ≡ true
both_so true true h k = refl
both_so true false h k = k
both_so false b h k = h

asked_push : (first : Question) (texts : List (List ℕ)) (text : List ℕ) → section_from first (texts ++ text ∷ []) ≡ section_from first texts ++ line_of text ∷ []
asked_push first texts text = ap (λ v. Ask first ∷ v) (says-push texts text)

module _ (may : Question → Bool) (Is : Question → List ℕ → Type 0) where
  -- one more line has an answer
  have_more : (first : Question) (texts : List (List ℕ)) (text : List ℕ) (answers answer : List ℕ) → HaveAnswers may Is (section_from first texts) answers → may_ask may (line_of text) ≡ true → IsLineAnswer Is (line_of text) answer → HaveAnswers may Is (section_from first (texts ++ text ∷ [])) (answers ++ answer)
  have_more first texts text answers answer have may_be is =
      subst (λ (ls : List Line). HaveAnswers may Is ls (answers ++ answer)) (sym (asked_push first texts text))
      (list_all-append (may_ask may) (section_from first texts) (line_of text ∷ []) ∙ both_so (list_all (may_ask may) (section_from first texts)) (may_ask may (line_of text)) have.0 may_be, answers_push Is (section_from first texts) (line_of text) answers answer have.1 is)

  have_first : (first : Question) (text : List ℕ) → may first ≡ true → IsLineAnswer Is (Ask first) text → HaveAnswers may Is (section_from first []) text
  have_first first text may_be is = (rw may_be refl, (text, [], is, refl, sym (append-nil text)))

  -- a line that isn't read as a question
  pub asked_fails : (lines : LineState) (now : Output) (fault : RunFault) → IsAsked lines (Err fault) → AsksLine may Is (line_of lines.line) lines.count now now (Err fault)
  asked_fails lines now (BadLine number) (bad, is) = (bad, is, refl)
  asked_fails lines now OutOfMemory (question, says) = (question, says, refl)
  asked_fails lines now InputFailed a = absurd a
  asked_fails lines now OutputFailed a = absurd a
  asked_fails lines now (Refused fault) a = absurd a
  asked_fails lines now (BodyRefused fault) a = absurd a

  module _ (first : Question) (start : RunState) where
    -- the first question was answered
    pub first_answered : (new : Output) (left : Option Question) → is_some left ≡ false → TakesLine may Is (Ask first) start.output new left → Answered may Is (section_from first []) start.output new
    first_answered new None none (may_be, text, is, written) = (text, have_first first text may_be is, written)
    first_answered new (Some left) none t = cc

    -- it may not be asked
    pub first_left : (new : Output) (left : Option Question) → is_some left ≡ true → TakesLine may Is (Ask first) start.output new left → AsksUpTo may Is start (record start { output = new }) first left
    first_left new None some t = cc
    first_left new (Some left) some (refuses, e, same) = (refuses, inl (cc, ap (λ (o : Output). record start { output = o }) same))

    -- it wasn't answered
    pub first_fails : (number : ℕ) (new : Output) (fault : RunFault) → AsksLine may Is (Ask first) number start.output new (Err fault) → Asks may Is start (record start { output = new }) first (Err fault)
    first_fails number new (BadLine told) a = absurd (cc a.0)
    first_fails number new OutputFailed (may_be, text, is, written) =
        ([], text, have_first first text may_be is, ReadsPrefix-now (unread start) (unread start) [] start.lines.at_end (ReadsLines-none (unread start) start.lines.at_end), written)
    first_fails number new OutOfMemory (question, is, same) = inr (ap (λ (o : Output). record start { output = o }) same)
    first_fails number new InputFailed a = absurd a
    first_fails number new (Refused fault) a = absurd a
    first_fails number new (BodyRefused fault) a = absurd a

    -- so far the lines were answered
    module _ (p : RunState) (all : SoFar may Is first start p) (stays : start.lines.at_end ≡ true → p.lines.at_end ≡ true) where
      abbrev texts : List (List ℕ)
      texts = all.0

      abbrev so_far : Answered may Is (section_from first texts) start.output p.output
      so_far = all.1

      read : ReadsLines (unread start) texts (unread p) p.lines.at_end
      read = all.2

      count : p.lines.count ≡ start.lines.count + length texts
      count = all.3

      -- some of what waited was written before a read
      pub answered_kept : (q : RunState) → IsWrittenUpTo p.output.contents q.output.contents p.output.waiting q.output.waiting → Answered may Is (section_from first texts) start.output q.output
      answered_kept q w = (so_far.0, so_far.1, rest_waits start.output p.output q.output so_far.0 so_far.2 w)

      -- no line could be had
      pub fails_to_read : (q : RunState) (fault : LineFault) → TakesNext p q (Err fault) → Asks may Is start q first (Err (fault_of_line fault))
      fails_to_read q line.OutOfMemory t =
          let counted : q.lines.count ≡ p.lines.count + 0 = t.count in
          inl (texts, answered_kept q (all_written p.output q.output t.writes.0 t.writes.1), after_none (λ text. asks (line_of text) ≡ true) start.lines.count (unread start) texts q.lines.line q.lines.count t.takes.1 (ReadsPrefix-now (unread start) (unread p) texts p.lines.at_end read) (omega (arith, count, counted)))
      fails_to_read q line.InputFailed t =
          (texts, answered_kept q (all_written p.output q.output t.writes.0 t.writes.1), unmet_then start.lines.at_end p.lines.at_end stays t.takes.1, ReadsUntilFailure-now (unread start) (unread p) q.remaining texts q.lines.pending p.lines.at_end read t.takes.1 t.takes.0)
      fails_to_read q line.OutputFailed t =
          (texts, so_far.0, so_far.1, ReadsPrefix-now (unread start) (unread p) texts p.lines.at_end read, cut start.output p.output q.output so_far.0 so_far.2 t.writes.0 t.writes.1)

      -- a line was taken
      module _ (q : RunState) (t : TakesNext p q (Ok true)) where
        pub read_on : ReadsLines (unread start) (texts ++ q.lines.line ∷ []) (unread q) q.lines.at_end
        read_on = ReadsLines-more (unread start) (unread p) (unread q) texts q.lines.line p.lines.at_end q.lines.at_end read t.takes t.stays_ended

        pub counted_on : q.lines.count ≡ start.lines.count + length texts + 1
        counted_on =
            let counted : q.lines.count ≡ p.lines.count + 1 = t.count in
            omega (arith, count, counted)

        prefix_on : ReadsPrefix (unread start) (texts ++ q.lines.line ∷ [])
        prefix_on = ReadsPrefix-now (unread start) (unread q) (texts ++ q.lines.line ∷ []) q.lines.at_end read_on

        before : Wrote start.output q.output so_far.0
        before = rest_waits start.output p.output q.output so_far.0 so_far.2 t.writes

        untouched : (new : Output) → new ≡ q.output → Answered may Is (section_from first texts) start.output new
        untouched new same = subst (λ (o : Output). Answered may Is (section_from first texts) start.output o) (sym same) (answered_kept q t.writes)

        -- and answered
        pub line_answered : (new : Output) (left : Option Question) → is_some left ≡ false → TakesLine may Is (line_of q.lines.line) q.output new left → Answered may Is (section_from first (texts ++ q.lines.line ∷ [])) start.output new
        line_answered new (Some left) none a = cc
        line_answered new None none (may_be, answer, is, written) =
            (so_far.0 ++ answer, have_more first texts q.lines.line so_far.0 answer so_far.1 may_be is, Wrote-then start.output q.output new so_far.0 answer before written)

        -- its question may not be asked
        pub line_left : (new : Output) (left : Option Question) → is_some left ≡ true → TakesLine may Is (line_of q.lines.line) q.output new left → AsksUpTo may Is start (record q { output = new }) first left
        line_left new None some a = cc
        line_left new (Some left) some (refuses, is, same) =
            (refuses, inr (texts, q.lines.line, untouched new same, refl, is, read_on, λ ended. t.stays_ended (stays ended), counted_on))

        -- it wasn't answered
        pub line_fails : (new : Output) (fault : RunFault) → AsksLine may Is (line_of q.lines.line) q.lines.count q.output new (Err fault) → Asks may Is start (record q { output = new }) first (Err fault)
        line_fails new (BadLine told) (bad, is, same) = (texts, q.lines.line, untouched new same, bad, prefix_on, is ∙ counted_on)
        line_fails new OutputFailed (may_be, answer, is, written) = (
          texts ++ q.lines.line ∷ [],
          so_far.0 ++ answer,
          have_more first texts q.lines.line so_far.0 answer so_far.1 may_be is,
          prefix_on,
          WrotePrefix-then start.output q.output new so_far.0 answer before written,
        )
        line_fails new OutOfMemory (question, says, same) =
            inl (texts, untouched new same, after_line (λ text. asks (line_of text) ≡ true) start.lines.count (unread start) texts q.lines.line q.lines.count (some_text q.lines.line (Ask question) says (λ e. cc)) prefix_on counted_on (ap asks says))
        line_fails new InputFailed a = absurd a
        line_fails new (Refused fault) a = absurd a
        line_fails new (BodyRefused fault) a = absurd a
