-- What a run comes to that is at a question: the lines before it were taken, and their answers were written.
use Rattle.std.proofs.Common.{◌≡◌, ◌+◌, ℕ, true, List, [], ◌∷◌, ◌++◌, Option, Some, Ok, Err, length, sym, ap, ◌∙◌, subst, append_assoc, append-nil}
use Rattle.std.specs.List.{list_all}
use Rattle.hir_show_io.specs.Reads.{ReadsLines}
use Rattle.hir_show_io.specs.Text.{lines}
use Rattle.hir_show_io.proofs.ReadLemmas.{ReadsPrefix-now}
use Rattle.hir_show_grammar.specs.Line.{Line, Ask, line_of, asks}
use Rattle.hir_show_grammar.specs.declared.question.Question.{Question}
use Rattle.hir_show_run.specs.declared.fault.RunFault.TheVariants.{OutOfMemory}
use Rattle.hir_show_run.specs.internal.RunStates.{RunState, unread}
use Rattle.hir_show_run.specs.Program.{Outcome, Trace, writes, ScriptRuns, IsMeaning, HasAnswers, says, script, script_of, line_after}
use Rattle.hir_show_run.specs.Run.{EndsWith, IsComplete, IsRefusedAfter}
use Rattle.hir_show_run.proofs.Refusals.{refused_asking}
use Rattle.hir_show_run.proofs.Scripts.{script-append, script-push, lines_after, suffix-asked, after_question}

-- the lines before a question, with the text of their answers; from the question on the run goes on by this
-- trace
pub record StandsAt (input : List ℕ) (p : RunState) (question : Question) (next : ℕ → List Line → Trace) (text : List ℕ) : Type 0 where
  pub texts : List (List ℕ)
  pub last : List ℕ
  pub line_is : p.lines.line ≡ last
  pub read : ReadsLines (Some input) (texts ++ last ∷ []) (unread p) p.lines.at_end
  pub count : p.lines.count ≡ length texts + 1
  pub is : line_of last ≡ Ask question
  pub sound : HasAnswers (script texts) text
  pub means : (more : List Line) (t : List ℕ) (outcome : Outcome) → next (length texts) (Ask question ∷ more) t outcome → IsMeaning (script texts ++ Ask question ∷ more) (text ++ t) outcome
  pub answers : (more : List Line) (t : List ℕ) (outcome : Outcome) → next (length texts) (Ask question ∷ more) t outcome → ScriptRuns (writes [] (Ok tt)) (script texts ++ Ask question ∷ more) (text ++ t) outcome

-- another trace leads on to that one
pub stands_on : {input : List ℕ} {p : RunState} {question : Question} {text : List ℕ} (next other : ℕ → List Line → Trace) → ((good : ℕ) (more : List Line) (t : List ℕ) (outcome : Outcome) → other good (Ask question ∷ more) t outcome → next good (Ask question ∷ more) t outcome)
    → StandsAt input p question next text → StandsAt input p question other text
stands_on next other leads at = record {
  texts = at.texts;
  last = at.last;
  line_is = at.line_is;
  read = at.read;
  count = at.count;
  is = at.is;
  sound = at.sound;
  means = λ more t outcome c. at.means more t outcome (leads (length at.texts) more t outcome c);
  answers = λ more t outcome c. at.answers more t outcome (leads (length at.texts) more t outcome c);
}

-- a script after the lines before a question
pub asked_script : (texts texts' more : List (List ℕ)) (last : List ℕ) (question : Question) → line_of last ≡ Ask question → list_all asks (says texts') ≡ true
    → script (((texts ++ last ∷ []) ++ texts') ++ more) ≡ script texts ++ Ask question ∷ (says texts' ++ lines_after ((texts ++ last ∷ []) ++ texts') more)
asked_script texts texts' more last question is all =
    let prefix = texts ++ last ∷ [] in
    let rest = says texts' ++ lines_after (prefix ++ texts') more in
    ap script (append_assoc prefix texts' more) ∙ script-append prefix (texts' ++ more)
    ∙ ap (λ v. v ++ lines_after prefix (texts' ++ more)) (script-push texts last)
    ∙ ap (λ v. (script texts ++ line_after texts last ∷ []) ++ v) (suffix-asked prefix texts' more all)
    ∙ append_assoc (script texts) (line_after texts last ∷ []) rest
    ∙ ap (λ l. script texts ++ l ∷ rest) (after_question texts last question is)

-- the same where nothing is asked after it
question_script : (texts more : List (List ℕ)) (last : List ℕ) (question : Question) → line_of last ≡ Ask question → script ((texts ++ last ∷ []) ++ more) ≡ script texts ++ Ask question ∷ lines_after (texts ++ last ∷ []) more
question_script texts more last question is =
    script-append (texts ++ last ∷ []) more ∙ ap (λ v. v ++ lines_after (texts ++ last ∷ []) more) (script-push texts last)
    ∙ append_assoc (script texts) (line_after texts last ∷ []) (lines_after (texts ++ last ∷ []) more)
    ∙ ap (λ l. script texts ++ l ∷ lines_after (texts ++ last ∷ []) more) (after_question texts last question is)

module _ (input : List ℕ) (p : RunState) (question : Question) (next : ℕ → List Line → Trace) (text : List ℕ) (at : StandsAt input p question next text) where
  -- all lines of the input, in those before the question, its own, and those after
  all_lines : (more : List (List ℕ)) × (lines input ≡ (at.texts ++ at.last ∷ []) ++ more)
  all_lines = ReadsPrefix-now (Some input) (unread p) (at.texts ++ at.last ∷ []) p.lines.at_end at.read

  -- the run ends at the question
  pub ends_there : (Wrote : List ℕ → Type 0) (outcome : Outcome) → Wrote text → ((good : ℕ) (more : List Line) → next good (Ask question ∷ more) [] outcome) → IsComplete input Wrote outcome
  ends_there Wrote outcome wrote trace =
      let suffix = all_lines in
      let whole : script_of input ≡ script at.texts ++ Ask question ∷ lines_after (at.texts ++ at.last ∷ []) suffix.0 = ap script suffix.1 ∙ question_script at.texts suffix.0 at.last question at.is in
      (text ++ [], rw whole (at.means _ [] outcome (trace _ _)), rw (append-nil text) wrote)

  -- an allocation fails there
  pub refused_there : (Wrote WrotePrefix : List ℕ → Type 0) (remaining : Option (List ℕ)) → Wrote text → EndsWith input Wrote WrotePrefix remaining p.lines (Err OutOfMemory)
  refused_there Wrote WrotePrefix remaining wrote =
      let suffix = all_lines in
      (at.texts, at.last ∷ suffix.0, suffix.1 ∙ append_assoc at.texts (at.last ∷ []) suffix.0, subst (λ (l : List ℕ). IsRefusedAfter at.texts (at.last ∷ suffix.0) l p.lines.count) (sym at.line_is) (refused_asking at.texts suffix.0 at.last p.lines.count question at.is at.count), text, at.sound, wrote)
