-- What a run comes to that is at the first question of a section, by how the section ends.
use Rattle.std.proofs.Common.{◌≡◌, ◌+◌, ℕ, Bool, true, false, List, [], ◌∷◌, ◌++◌, None, Some, Ok, Err, length, inl, inr, refl, sym, ap, subst, ◌∙◌, append_assoc, append-nil, add-zero, arith, length-append}
use Rattle.std.specs.List.{list_all}
use Rattle.std.proofs.lemmas.List.{length-map}
use Rattle.hir_show_io.specs.Text.{lines}
use Rattle.hir_show_io.proofs.ReadLemmas.{ReadsLines-joined, ReadsAll-joined, ReadsPrefix-joined, ReadsUntilFailure-joined}
use Rattle.hir_show_grammar.specs.Line.{Line, Ask, line_of, asks, may_ask}
use Rattle.hir_show_grammar.specs.declared.question.Question.{Question}
use Rattle.hir_show_run.specs.declared.fault.RunFault.{RunFault}
use Rattle.hir_show_run.specs.declared.fault.RunFault.TheVariants.{BadLine, Refused, BodyRefused, InputFailed, OutputFailed, OutOfMemory}
use Rattle.hir_show_run.specs.internal.Output.{Output, Wrote, WrotePrefix}
use Rattle.hir_show_run.specs.internal.RunStates.{RunState, unread}
use Rattle.hir_show_run.specs.Program.{Outcome, Trace, section, HasAnswers, says, script, script_of, line_after}
use Rattle.hir_show_run.specs.Run.{EndsWith, IsRefusedAfter}
use Rattle.hir_show_run.specs.internal.Stages.{section_from, HaveAnswers, Asks, AsksUpTo, OutOfMemoryAt}
use Rattle.hir_show_run.proofs.Scripts.{lines_after, suffix-cons, suffix-bad}
use Rattle.hir_show_run.proofs.TraceLemmas.{BeginsOutside, no_line, outside, section_after, all_asks, asks_not}
use Rattle.hir_show_run.proofs.QuestionLemmas.{StandsAt, asked_script, refused_there}
use Rattle.hir_show_run.proofs.Refusals.{refused_after}
use Rattle.hir_show_run.proofs.WritingLemmas.{Wrote-then, WrotePrefix-then}

group_again : (done texts : List (List ℕ)) (text : List ℕ) (more : List (List ℕ)) → (done ++ (texts ++ text ∷ [])) ++ more ≡ (done ++ texts) ++ (text ∷ more)
group_again done texts text more = simp append_assoc

module _ (input : List ℕ) (p : RunState) (question : Question) (may : Question → Bool) (Is : Question → List ℕ → Type 0) (next : ℕ → List Line → Trace) (text : List ℕ) (at : StandsAt input p question (section may Is next) text) where
  -- the lines that were taken, up to these of the section
  abbrev taken : List (List ℕ) → List (List ℕ)
  taken texts = (at.texts ++ at.last ∷ []) ++ texts

  -- how many they are
  taken-length : (texts : List (List ℕ)) → length (taken texts) ≡ p.lines.count + length texts
  taken-length texts = omega (arith, length-append (at.texts ++ at.last ∷ []) texts, length-append at.texts (at.last ∷ []), at.count)

  -- how many lines come before what comes after them
  good : (texts : List (List ℕ)) → length at.texts + length (section_from question texts) ≡ p.lines.count + length texts
  good texts = omega (arith, at.count, length-map texts line_of)

  -- an allocation fails at one of them, or after them
  refused_line : (texts : List (List ℕ)) (line : List ℕ) (count : ℕ) → OutOfMemoryAt (λ t. asks (line_of t) ≡ true) p.lines.count (unread p) texts line count →
      (more : List (List ℕ)) × (lines input ≡ taken texts ++ more) × IsRefusedAfter (taken texts) more line count
  refused_line texts [] count (prefix, counted) =
      let joined = ReadsPrefix-joined (Some input) (unread p) (at.texts ++ at.last ∷ []) texts p.lines.at_end at.read prefix in
      (joined.0, joined.1, omega (arith, counted, taken-length texts))
  refused_line texts (b ∷ bs) count (prefix, counted, asked) =
      let joined = ReadsPrefix-joined (Some input) (unread p) (at.texts ++ at.last ∷ []) (texts ++ (b ∷ bs) ∷ []) p.lines.at_end at.read prefix in
      ((b ∷ bs) ∷ joined.0, joined.1 ∙ group_again (at.texts ++ at.last ∷ []) texts (b ∷ bs) joined.0, refused_after (taken texts) joined.0 (b ∷ bs) count (λ e. cc) (omega (arith, counted, taken-length texts)) asked)

  all_ask : (texts : List (List ℕ)) (answers : List ℕ) → HaveAnswers may Is (section_from question texts) answers → list_all asks (says texts) ≡ true
  all_ask texts answers have = all_asks may (section_from question texts) have.0

  whole : (texts more : List (List ℕ)) (answers : List ℕ) → HaveAnswers may Is (section_from question texts) answers → script (taken texts ++ more) ≡ script at.texts ++ Ask question ∷ (says texts ++ lines_after (taken texts) more)
  whole texts more answers have = asked_script at.texts texts more at.last question at.is (all_ask texts answers have)

  alone : (texts : List (List ℕ)) (answers : List ℕ) → HaveAnswers may Is (section_from question texts) answers → script (taken texts) ≡ script at.texts ++ Ask question ∷ (says texts ++ [])
  alone texts answers have = ap script (sym (append-nil (taken texts))) ∙ whole texts [] answers have

  trace : (texts : List (List ℕ)) (answers : List ℕ) → HaveAnswers may Is (section_from question texts) answers → (tail : List Line) (t : List ℕ) (outcome : Outcome) → BeginsOutside (may_ask may) tail → next (p.lines.count + length texts) tail t outcome → section may Is next (length at.texts) (Ask question ∷ (says texts ++ tail)) (answers ++ t) outcome
  trace texts answers have tail t outcome out c =
      section_after may Is next (length at.texts) (section_from question texts) tail answers t outcome have.0 have.1 out (rw (good texts) c)

  module _ (next_end : (n : ℕ) → next n [] [] (Ok tt)) (next_bad : (n : ℕ) (bad : Line) (more : List Line) → asks bad ≡ false → next n (bad ∷ more) [] (Err (BadLine (n + 1)))) where
    sound_so_far : (texts : List (List ℕ)) (answers : List ℕ) → HaveAnswers may Is (section_from question texts) answers → HasAnswers (script (taken texts)) (text ++ answers)
    sound_so_far texts answers have =
        rw (alone texts answers have) (rw (append-nil answers) at (at.answers (says texts ++ []) (answers ++ []) (Ok tt) (trace texts answers have [] [] (Ok tt) no_line (next_end _))))

    module _ (start : Output) (q : RunState) (w : Wrote start p.output text) where
      wrote : (answers : List ℕ) → Wrote p.output q.output answers → Wrote start q.output (text ++ answers)
      wrote answers v = Wrote-then start p.output q.output text answers w v

      -- all lines were answered
      pub section_done : AsksUpTo may Is p q question None → EndsWith input (Wrote start q.output) (WrotePrefix start q.output) q.remaining q.lines (Ok tt)
      section_done (texts, (answers, have, written), all, counted) =
          let every : lines input ≡ taken texts = ReadsAll-joined (Some input) (unread p) (at.texts ++ at.last ∷ []) texts p.lines.at_end at.read all in
          let is : script_of input ≡ script at.texts ++ Ask question ∷ (says texts ++ []) = ap script every ∙ alone texts answers have in
          let means = at.means (says texts ++ []) (answers ++ []) (Ok tt) (trace texts answers have [] [] (Ok tt) no_line (next_end _)) in
          (text ++ answers, rw is (rw (append-nil answers) at means), wrote answers written)

      -- it ends early
      pub section_ends : (fault : RunFault) → Asks may Is p q question (Err fault) → EndsWith input (Wrote start q.output) (WrotePrefix start q.output) q.remaining q.lines (Err fault)
      section_ends (BadLine n) (texts, line, (answers, have, written), bad, prefix, number) =
          let joined = ReadsPrefix-joined (Some input) (unread p) (at.texts ++ at.last ∷ []) (texts ++ line ∷ []) p.lines.at_end at.read prefix in
          let tail : List Line = line_after (taken texts) line ∷ lines_after (taken texts ++ line ∷ []) joined.0 in
          let not_asked : asks (line_after (taken texts) line) ≡ false = suffix-bad (taken texts) line bad in
          let is : script_of input ≡ script at.texts ++ Ask question ∷ (says texts ++ tail) =
          ap script (joined.1 ∙ group_again (at.texts ++ at.last ∷ []) texts line joined.0) ∙ whole texts (line ∷ joined.0) answers have
          ∙ ap (λ v. script at.texts ++ Ask question ∷ (says texts ++ v)) (suffix-cons (taken texts) joined.0 line) in
          let means = at.means (says texts ++ tail) (answers ++ []) (Err (BadLine (p.lines.count + length texts + 1))) (trace texts answers have tail [] _ (outside (asks_not may _ not_asked)) (next_bad _ _ _ not_asked)) in
          (text ++ answers, rw (is, number) (rw (append-nil answers) at means), wrote answers written)
      section_ends InputFailed (texts, (answers, have, written), unmet, until) =
          let joined = ReadsUntilFailure-joined (Some input) (unread p) q.remaining (at.texts ++ at.last ∷ []) texts q.lines.pending p.lines.at_end at.read unmet until in
          (taken texts, q.lines.pending, joined.0, joined.1, joined.2, text ++ answers, sound_so_far texts answers have, wrote answers written)
      section_ends OutputFailed (texts, answers, have, prefix, written) =
          let joined = ReadsPrefix-joined (Some input) (unread p) (at.texts ++ at.last ∷ []) texts p.lines.at_end at.read prefix in
          (text ++ answers, inl (taken texts, joined.0, joined.1, sound_so_far texts answers have), WrotePrefix-then start p.output q.output text answers w written)
      section_ends OutOfMemory (inl (texts, (answers, have, written), refuses)) =
          let refused = refused_line texts q.lines.line q.lines.count refuses in
          (taken texts, refused.0, refused.1, refused.2, text ++ answers, sound_so_far texts answers have, wrote answers written)
      section_ends OutOfMemory (inr same) =
          subst (λ (v : RunState). EndsWith input (Wrote start v.output) (WrotePrefix start v.output) v.remaining v.lines (Err OutOfMemory)) (sym same)
          (refused_there input p question (section may Is next) text at (Wrote start p.output) (WrotePrefix start p.output) p.remaining w)
      section_ends (Refused fault) a = absurd a
      section_ends (BodyRefused fault) a = absurd a

      -- it ends before a question that may not be asked in it: from there the run goes on by the next trace
      pub section_left : (left : Question) → AsksUpTo may Is p q question (Some left) → (t : List ℕ) × StandsAt input q left next t × Wrote start q.output t
      section_left left (refuses, inl (is, same)) =
          let handed : may question ≡ false = subst (λ (l : Question). may l ≡ false) is refuses in
          let goes : (more : List Line) (t : List ℕ) (outcome : Outcome) → next (length at.texts) (Ask question ∷ more) t outcome → section may Is next (length at.texts) (Ask question ∷ more) t outcome =
          λ more t outcome c. section_after may Is next (length at.texts) [] (Ask question ∷ more) [] t outcome refl refl (outside handed) (rw (add-zero (length at.texts)) c) in
          let stays : StandsAt input p question next text =
          record {
            texts = at.texts;
            last = at.last;
            line_is = at.line_is;
            read = at.read;
            count = at.count;
            is = at.is;
            sound = at.sound;
            means = λ more t outcome c. at.means more t outcome (goes more t outcome c);
            answers = λ more t outcome c. at.answers more t outcome (goes more t outcome c);
          } in
          (text, subst (λ (v : RunState). StandsAt input v left next text) (sym same) (subst (λ (l : Question). StandsAt input p l next text) (sym is) stays), subst (λ (v : RunState). Wrote start v.output text) (sym same) w)
      section_left left (refuses, inr (texts, line, (answers, have, written), line_is, is, read, stays, counted)) =
          let joined = ReadsLines-joined (Some input) (unread p) (unread q) (at.texts ++ at.last ∷ []) (texts ++ line ∷ []) p.lines.at_end q.lines.at_end at.read read stays in
          let grouped : (at.texts ++ at.last ∷ []) ++ (texts ++ line ∷ []) ≡ taken texts ++ line ∷ [] = sym (append_assoc (at.texts ++ at.last ∷ []) texts (line ∷ [])) in
          let before : (more : List Line) → script at.texts ++ Ask question ∷ (says texts ++ Ask left ∷ more) ≡ script (taken texts) ++ Ask left ∷ more =
          λ more. ap (λ v. script at.texts ++ Ask question ∷ v) (ap (λ v. v ++ Ask left ∷ more) (sym (append-nil (says texts))))
          ∙ sym (append_assoc (script at.texts) (Ask question ∷ (says texts ++ [])) (Ask left ∷ more)) ∙ ap (λ v. v ++ Ask left ∷ more) (sym (alone texts answers have)) in
          let goes : (more : List Line) (t : List ℕ) (outcome : Outcome) → next (length (taken texts)) (Ask left ∷ more) t outcome → section may Is next (length at.texts) (Ask question ∷ (says texts ++ Ask left ∷ more)) (answers ++ t) outcome =
          λ more t outcome c. trace texts answers have (Ask left ∷ more) t outcome (outside refuses) (rw (taken-length texts) at c) in (
            text ++ answers,
            record {
              texts = taken texts;
              last = line;
              line_is = sym line_is;
              read = rw grouped at joined;
              count = omega (arith, counted, taken-length texts);
              is = is;
              sound = sound_so_far texts answers have;
              means = λ more t outcome c. rw (before more, ← append_assoc text answers t) at (at.means (says texts ++ Ask left ∷ more) (answers ++ t) outcome (goes more t outcome c));
              answers = λ more t outcome c. rw (before more, ← append_assoc text answers t) at (at.answers (says texts ++ Ask left ∷ more) (answers ++ t) outcome (goes more t outcome c));
            },
            wrote answers written,
          )
