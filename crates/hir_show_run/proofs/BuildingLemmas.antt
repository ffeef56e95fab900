-- How the lines that make end: where no line can be had, at a line that makes nothing, or at a question.
use Rattle.std.proofs.Common.{◌≡◌, ◌≢◌, ◌+◌, ◌++◌, ◌∷◌, [], ℕ, true, false, List, Option, None, Some, Result, Ok, Err, length, inl, inr, refl, sym, ap, ◌∙◌, subst, if◌then◌else◌, arith, true≢false}
use Rattle.hir_show_io.specs.declared.next.LineFault.{LineFault}
use Rattle.hir_show_io.specs.declared.next.LineFault.TheVariants as line
use Rattle.hir_show_io.specs.LineState.{LineState}
use Rattle.hir_show_io.specs.NextLine.{bytes_left, is_failed_output}
use Rattle.hir_show_io.specs.Reads.{ReadsLines, ReadsPrefix}
use Rattle.hir_show_io.proofs.ReadLemmas.{ReadsLines-none, ReadsLines-more, ReadsPrefix-now, ReadsUntilFailure-now}
use Rattle.hir_show_grammar.specs.Line.{Line, Blank, Make, Ask, Bad, line_of, makes, asks}
use Rattle.hir_show_grammar.specs.Makers.{Maker}
use Rattle.hir_show_grammar.specs.declared.question.Question.{Question}
use Rattle.hir_show_run.specs.declared.fault.RunFault.{RunFault}
use Rattle.hir_show_run.specs.declared.fault.RunFault.TheVariants.{BadLine, Refused, BodyRefused, InputFailed, OutputFailed, OutOfMemory}
use Rattle.hir_show_run.specs.Faults.{fault_of_line}
use Rattle.hir_show_run.specs.Outcomes.{is_input_failed}
use Rattle.hir_show_run.specs.Parts.{Parts, no_parts}
use Rattle.hir_show_run.specs.internal.Parts.{is_second}
use Rattle.hir_show_run.specs.internal.RunStates.{RunState, TakesNext, unread}
use Rattle.hir_show_run.specs.Program.{line_after}
use Rattle.hir_show_run.specs.Run.{no_lines}
use Rattle.hir_show_run.specs.internal.Stages.{Makes, Builds, BuildsLine, IsAsked}
use Rattle.hir_show_run.proofs.AskedLemmas.{asked_marks_none}
use Rattle.hir_show_run.proofs.Making.{Makes-none}
use Rattle.hir_show_run.proofs.Refusals.{after_line, after_none, some_text}
use Rattle.hir_show_run.proofs.Scripts.{Tells, bad_is, after_make, after_question, tells_nothing}

neither : (line : Line) → makes line ≡ false → asks line ≡ false → line ≡ Bad
neither Blank m a = absurd (true≢false m)
neither (Make maker) m a = absurd (true≢false m)
neither (Ask question) m a = absurd (true≢false a)
neither Bad m a = refl

-- so far these lines were read, and this is what they make
abbrev pub SoFar : Option (List ℕ) → RunState → Parts → Type 0
SoFar known now parts =
    (texts : List (List ℕ)) × Makes texts parts × Tells parts texts
    × ReadsLines known texts (unread now) now.lines.at_end × (now.lines.count ≡ length texts)

all_left : (known : Option (List ℕ)) → bytes_left [] false known ≡ known
all_left None = refl
all_left (Some rest) = refl

-- a new reader of lines has taken nothing
pub no_line_yet : (start : RunState) (parts : Parts) → start.lines ≡ no_lines → parts ≡ no_parts → SoFar start.remaining start parts
no_line_yet start parts fresh none =
    let all = ap (λ (l : LineState). bytes_left l.pending l.at_end start.remaining) fresh ∙ all_left start.remaining in
    ([], rw none Makes-none, rw none (tells_nothing no_parts refl refl), subst (λ (k : Option (List ℕ)). ReadsLines k [] (unread start) start.lines.at_end) all (ReadsLines-none (unread start) start.lines.at_end), ap (λ (l : LineState). l.count) fresh)

module _ (known : Option (List ℕ)) (p : RunState) (parts : Parts) (all : SoFar known p parts) where
  abbrev texts : List (List ℕ)
  texts = all.0

  m : Makes texts parts
  m = all.1

  tells : Tells parts texts
  tells = all.2

  read : ReadsLines known texts (unread p) p.lines.at_end
  read = all.3

  count : p.lines.count ≡ length texts
  count = all.4

  -- no line can be had
  pub build_fails : (q : RunState) (fault : LineFault) → TakesNext p q (Err fault) → is_failed_output (Err fault) ≡ false → Builds known q parts (Err (fault_of_line fault))
  build_fails q line.OutOfMemory t quiet =
      let counted : q.lines.count ≡ p.lines.count + 0 = t.count in
      (texts, m.0, after_none (λ text. line_after texts text ≢ Bad) 0 known texts q.lines.line q.lines.count t.takes.1 (ReadsPrefix-now known (unread p) texts p.lines.at_end read) (omega (arith, count, counted)))
  build_fails q line.InputFailed t quiet =
      (texts, m.0, ReadsUntilFailure-now known (unread p) q.remaining texts q.lines.pending p.lines.at_end read t.takes.1 t.takes.0)
  build_fails q line.OutputFailed t quiet = cc

  -- a line was taken
  module _ (q : RunState) (t : TakesNext p q (Ok true)) where
    pub read_on : ReadsLines known (texts ++ q.lines.line ∷ []) (unread q) q.lines.at_end
    read_on = ReadsLines-more known (unread p) (unread q) texts q.lines.line p.lines.at_end q.lines.at_end read t.takes t.stays_ended

    pub counted_on : q.lines.count ≡ length texts + 1
    counted_on =
        let counted : q.lines.count ≡ p.lines.count + 1 = t.count in
        omega (arith, count, counted)

    prefix_on : ReadsPrefix known (texts ++ q.lines.line ∷ [])
    prefix_on = ReadsPrefix-now known (unread q) (texts ++ q.lines.line ∷ []) q.lines.at_end read_on

    -- it makes something, and is the second of its kind or isn't
    there : (maker : Maker) → line_of q.lines.line ≡ Make maker → line_after texts q.lines.line ≡ (if is_second parts maker then Bad else Make maker)
    there maker says = after_make parts texts q.lines.line maker tells says

    -- it is bad there, or an allocation for it failed
    pub build_line_fails : (new after : Parts) (fault : RunFault) → BuildsLine q.lines parts new (Err fault) → Builds known q after (Err fault)
    build_line_fails new after OutOfMemory (maker, says, first) =
        let good : line_after texts q.lines.line ≡ Make maker = there maker says ∙ ap (λ b. if b then Bad else Make maker) first in
        (texts, m.0, after_line (λ text. line_after texts text ≢ Bad) 0 known texts q.lines.line q.lines.count (some_text q.lines.line (Make maker) says (λ e. cc)) prefix_on (omega (arith, counted_on)) (λ bad. let wrong : Make maker ≡ Bad = sym good ∙ bad in cc))
    build_line_fails new after (BadLine number) (inl bad, is) = (texts, q.lines.line, m.0, bad_is texts q.lines.line bad, prefix_on, is ∙ counted_on)
    build_line_fails new after (BadLine number) (inr (maker, says, second), is) =
        (texts, q.lines.line, m.0, there maker says ∙ ap (λ b. if b then Bad else Make maker) second, prefix_on, is ∙ counted_on)
    build_line_fails new after InputFailed does = absurd does
    build_line_fails new after OutputFailed does = absurd does
    build_line_fails new after (Refused fault) does = absurd does
    build_line_fails new after (BodyRefused fault) does = absurd does

    -- it makes nothing: it is a question, or bad, or an allocation for it failed
    pub asked_next : (result : Result (Option Question) RunFault) → makes (line_of q.lines.line) ≡ false → IsAsked q.lines result → Builds known q parts result
    asked_next (Ok None) left says = absurd (true≢false (sym (ap makes says) ∙ left))
    asked_next (Ok (Some question)) left says = (texts, m, says, read_on, counted_on)
    asked_next (Err (BadLine number)) left (other, is) =
        (texts, q.lines.line, m.0, bad_is texts q.lines.line (neither (line_of q.lines.line) left other), prefix_on, is ∙ counted_on)
    asked_next (Err OutOfMemory) left (question, says) =
        (texts, m.0, after_line (λ text. line_after texts text ≢ Bad) 0 known texts q.lines.line q.lines.count (some_text q.lines.line (Ask question) says (λ e. cc)) prefix_on (omega (arith, counted_on)) (λ bad. let wrong : Ask question ≡ Bad = sym (after_question texts q.lines.line question says) ∙ bad in cc))
    asked_next (Err InputFailed) left does = absurd does
    asked_next (Err OutputFailed) left does = absurd does
    asked_next (Err (Refused fault)) left does = absurd does
    asked_next (Err (BodyRefused fault)) left does = absurd does

-- what the line asks is no failed read
pub asked_reads_none : (lines : LineState) (result : Result (Option Question) RunFault) → IsAsked lines result → is_input_failed result ≡ false
asked_reads_none lines (Ok asked) a = refl
asked_reads_none lines (Err fault) a = (asked_marks_none (Option Question) lines fault a).0
