-- What the parts of a run come to.
use Rattle.std.proofs.Common.{◌≡◌, ◌+◌, ℕ, true, false, List, [], ◌∷◌, ◌++◌, Option, None, Some, Ok, Err, length, inr, refl, sym, ap, ◌∙◌, append_assoc, append-nil, arith, subst, codes}
use Rattle.std.specs.List.{list_all}
use Rattle.hir_show_grammar.specs.Line.{Line, Ask, Bad, makes, asks, any_question}
use Rattle.hir_show_grammar.specs.declared.question.Question.{Question}
use Rattle.hir_store.specs.Building.{contents_of, finish_fault}
use Rattle.hir_body.specs.Bodies.{body_fault}
use Rattle.hir_show_run.specs.declared.fault.RunFault.{RunFault}
use Rattle.hir_show_run.specs.declared.fault.RunFault.TheVariants.{BadLine, Refused, BodyRefused, InputFailed, OutputFailed, OutOfMemory}
use Rattle.hir_show_run.specs.Parts.{Parts, body_parts}
use Rattle.hir_show_run.specs.Answer.{IsStoreAnswer, IsAnswer}
use Rattle.hir_show_run.specs.internal.Output.{Output, Wrote, WrotePrefix}
use Rattle.hir_show_run.specs.internal.RunStates.{RunState}
use Rattle.hir_show_run.specs.Program.{is_of_store, Outcome, writes, section, stops, after_store, on_body, on_store, accepts, built_by, IsMeaning, HasAnswers, script, script_of}
use Rattle.hir_show_run.specs.Run.{EndsWith, IsRefusedAfter}
use Rattle.hir_show_run.specs.internal.Stages.{Builds, Finishes, IsBodyOf, Accepts}
use Rattle.hir_show_run.proofs.Scripts.{script-append, script-length, lines_after, suffix-cons}
use Rattle.hir_show_run.proofs.TraceLemmas.{no_line, outside, runs_after, means_after}
use Rattle.hir_show_run.proofs.QuestionLemmas.{StandsAt, stands_on, ends_there, refused_there}
use Rattle.hir_show_run.proofs.Refusals.{refused_making}
use Rattle.hir_show_run.proofs.WritingLemmas.{Wrote-then, WrotePrefix-then}

-- nothing is asked, and the lines make something
pub answers-alone : (ls : List Line) → list_all makes ls ≡ true → HasAnswers ls []
answers-alone ls all =
    let e : ls ++ [] ≡ ls = append-nil ls in
    rw e at (runs_after (writes [] (Ok tt)) ls [] [] (Ok tt) all no_line (refl, refl))

-- a bad line after them
meaning-bad : (ls rest : List Line) → list_all makes ls ≡ true → IsMeaning (ls ++ Bad ∷ rest) [] (Err (BadLine (length ls + 1)))
meaning-bad ls rest all = means_after ls (Bad ∷ rest) [] _ all (outside refl) (refl, refl)

-- no line after them
meaning-alone : (ls : List Line) (text : List ℕ) (outcome : Outcome) → list_all makes ls ≡ true → accepts (built_by ls) text outcome → IsMeaning ls text outcome
meaning-alone ls text outcome all trace =
    let e : ls ++ [] ≡ ls = append-nil ls in
    rw e at (means_after ls [] text outcome all no_line trace)

-- nothing was written so far
module _ (input : List ℕ) (start : Output) (p : RunState) (built : Parts) (nothing : Wrote start p.output []) where
  abbrev Ending : Outcome → Type 0
  Ending outcome = EndsWith input (Wrote start p.output) (WrotePrefix start p.output) p.remaining p.lines outcome

  -- the lines that make end early
  pub build_ends : (fault : RunFault) → Builds (Some input) p built (Err fault) → Ending (Err fault)
  build_ends (BadLine n) (texts, text, all, bad, prefix, number) =
      let is : script_of input ≡ script texts ++ Bad ∷ lines_after (texts ++ text ∷ []) prefix.0 =
      ap script (prefix.1 ∙ append_assoc texts (text ∷ []) prefix.0) ∙ script-append texts (text ∷ prefix.0)
      ∙ ap (λ v. script texts ++ v) (suffix-cons texts prefix.0 text) ∙ ap (λ l. script texts ++ l ∷ lines_after (texts ++ text ∷ []) prefix.0) bad in
      let count : n ≡ length (script texts) + 1 = omega (arith, number, script-length texts) in
      ([], rw (is, count) (meaning-bad (script texts) _ all), nothing)
  build_ends InputFailed (texts, all, (rest, short, left)) =
      (texts, p.lines.pending, rest, short, left, [], answers-alone (script texts) all, nothing)
  build_ends OutOfMemory (texts, all, refuses) =
      let refused = refused_making input texts p.lines.line p.lines.count all refuses in
      (texts, refused.0, refused.1, refused.2, [], answers-alone (script texts) all, nothing)
  build_ends OutputFailed b = absurd b
  build_ends (Refused fault) b = absurd b
  build_ends (BodyRefused fault) b = absurd b

  -- a question was met
  pub built_at : (question : Question) → Builds (Some input) p built (Ok (Some question)) → StandsAt input p question (on_store built) []
  built_at question (texts, makes_all, is, read, count) =
      let all = makes_all.0 in
      let counted : length (script texts) ≡ length texts = script-length texts in
      record {
        texts = texts;
        last = p.lines.line;
        line_is = refl;
        read = read;
        count = count;
        is = is;
        sound = answers-alone (script texts) all;
        means = λ more t outcome c. means_after (script texts) (Ask question ∷ more) t outcome all (outside refl) (rw (← makes_all.1, counted) c);
        answers = λ more t outcome c. runs_after (writes [] (Ok tt)) (script texts) (Ask question ∷ more) t outcome all (outside refl) (rw (← makes_all.1, counted) c);
      }

  -- what was made is no store
  pub finish_ends : (first : Option Question) (fault : RunFault) → Builds (Some input) p built (Ok first) → Finishes built.built (Err fault) → Ending (Err fault)
  finish_ends None (Refused fault) (texts, makes_all, every, none, count) (first, same, verdict) =
      let is : script_of input ≡ script texts = ap script every in
      ([], rw (is, same) (meaning-alone (script texts) [] _ makes_all.0 (rw (← makes_all.1) (Some first, verdict, (refl, refl)))), nothing)
  finish_ends None (BodyRefused fault) b (first, same, verdict) = cc
  finish_ends None OutOfMemory (texts, makes_all, every, none, count) f =
      (texts, [], every ∙ sym (append-nil texts), subst (λ (l : List ℕ). IsRefusedAfter texts [] l p.lines.count) (sym none) count, [], answers-alone (script texts) makes_all.0, nothing)
  finish_ends (Some question) (Refused fault) b (first, same, verdict) =
      rw same (ends_there input p question (on_store built) [] (built_at question b) (Wrote start p.output) _ nothing (λ good more. (Some first, verdict, (refl, refl))))
  finish_ends (Some question) (BodyRefused fault) b (first, same, verdict) = cc
  finish_ends (Some question) OutOfMemory b f =
      refused_there input p question (on_store built) [] (built_at question b) (Wrote start p.output) (WrotePrefix start p.output) p.remaining nothing
  finish_ends first (BadLine n) b f = absurd f
  finish_ends first InputFailed b f = absurd f
  finish_ends first OutputFailed b f = absurd f

  -- there is no question
  pub accept_ends : (q : RunState) (outcome : Outcome) → Builds (Some input) p built (Ok None) → finish_fault built.built None → Accepts p.output q.output outcome → EndsWith input (Wrote start q.output) (WrotePrefix start q.output) q.remaining q.lines outcome
  accept_ends q outcome (texts, makes_all, every, none, count) verdict a = by outcome a
    where
      means : IsMeaning (script_of input) (codes "accepted\n") (Ok tt)
      means =
          let is : script_of input ≡ script texts = ap script every in
          rw is (meaning-alone (script texts) (codes "accepted\n") (Ok tt) makes_all.0 (rw (← makes_all.1) (None, verdict, (refl, refl))))

      by : (outcome : Outcome) → Accepts p.output q.output outcome → EndsWith input (Wrote start q.output) (WrotePrefix start q.output) q.remaining q.lines outcome
      by (Ok done) a = (codes "accepted\n", means, Wrote-then start p.output q.output [] (codes "accepted\n") nothing a)
      by (Err OutputFailed) a = (codes "accepted\n", inr (Ok tt, means), WrotePrefix-then start p.output q.output [] (codes "accepted\n") nothing a)
      by (Err (BadLine n)) a = absurd a
      by (Err (Refused fault)) a = absurd a
      by (Err (BodyRefused fault)) a = absurd a
      by (Err InputFailed) a = absurd a
      by (Err OutOfMemory) a = absurd a

-- the parts of a body have a fault, or an allocation fails
pub body_ends : (input : List ℕ) (start : Output) (p : RunState) (question : Question) (built : Parts) (text : List ℕ) (fault : RunFault) → StandsAt input p question (on_body built) text → IsBodyOf (body_parts built) (Err fault) → Wrote start p.output text → EndsWith input (Wrote start p.output) (WrotePrefix start p.output) p.remaining p.lines (Err fault)
body_ends input start p question built text (BodyRefused fault) at (first, same, verdict) wrote =
    rw same (ends_there input p question (on_body built) text at (Wrote start p.output) _ wrote (λ good more. (Some first, verdict, (refl, refl))))
body_ends input start p question built text (Refused fault) at (first, same, verdict) wrote = cc
body_ends input start p question built text OutOfMemory at m wrote =
    refused_there input p question (on_body built) text at (Wrote start p.output) (WrotePrefix start p.output) p.remaining wrote
body_ends input start p question built text (BadLine n) at m wrote = absurd m
body_ends input start p question built text InputFailed at m wrote = absurd m
body_ends input start p question built text OutputFailed at m wrote = absurd m

-- what comes after the questions on the store: nothing, or a bad line, ends the run; a question on the body
-- goes on
pub store_end : (built : Parts) (n : ℕ) → after_store built n [] [] (Ok tt)
store_end built n = (refl, refl)

pub store_bad : (built : Parts) (n : ℕ) (bad : Line) (more : List Line) → asks bad ≡ false → after_store built n (bad ∷ more) [] (Err (BadLine (n + 1)))
store_bad built n bad more e = rw e (refl, refl)

-- at the first question, of what has no fault
pub at_store : (input : List ℕ) (p : RunState) (question : Question) (built : Parts) → finish_fault built.built None → StandsAt input p question (on_store built) [] → StandsAt input p question (section is_of_store (IsStoreAnswer (contents_of built.built)) (after_store built)) []
at_store input p question built verdict at = stands_on (on_store built) _ (λ good more t outcome c. (None, verdict, c)) at

-- at the first question on the body
pub at_body : (input : List ℕ) (p : RunState) (question : Question) (built : Parts) (text : List ℕ) → StandsAt input p question (after_store built) text → StandsAt input p question (on_body built) text
at_body input p question built text at = stands_on (after_store built) _ (λ good more t outcome c. c) at

pub in_body : (input : List ℕ) (p : RunState) (question : Question) (built : Parts) (text : List ℕ) → body_fault (body_parts built) None → StandsAt input p question (on_body built) text → StandsAt input p question (section any_question (IsAnswer built.name (body_parts built)) stops) text
in_body input p question built text verdict at = stands_on (on_body built) _ (λ good more t outcome c. (None, verdict, c)) at

pub stops_end : (n : ℕ) → stops n [] [] (Ok tt)
stops_end n = (refl, refl)

pub stops_bad : (n : ℕ) (bad : Line) (more : List Line) → asks bad ≡ false → stops n (bad ∷ more) [] (Err (BadLine (n + 1)))
stops_bad n bad more e = (refl, refl)
