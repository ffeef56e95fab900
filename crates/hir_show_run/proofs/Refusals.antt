-- Where an allocation fails: at the line that was taken last, or after all lines that were taken.
use Rattle.std.proofs.Common.{◌≡◌, ◌≢◌, ◌+◌, ℕ, true, List, [], ◌∷◌, ◌++◌, Option, Some, length, refl, sym, ap, ◌∙◌, subst, append_assoc, arith}
use Rattle.std.specs.List.{list_all}
use Rattle.hir_show_io.specs.Reads.{ReadsPrefix}
use Rattle.hir_show_io.specs.Text.{lines}
use Rattle.hir_show_grammar.specs.Line.{Line, Blank, Make, Ask, Bad, asks, line_of, makes}
use Rattle.hir_show_grammar.specs.declared.question.Question.{Question}
use Rattle.hir_show_run.specs.Program.{line_after, may_come, script}
use Rattle.hir_show_run.specs.Run.{IsRefusedAfter}
use Rattle.hir_show_run.specs.internal.Stages.{AllMake, OutOfMemoryAt}
use Rattle.hir_show_run.proofs.Scripts.{suffix_is, after_question}

-- a line that isn't blank has a text
pub some_text : (text : List ℕ) (line : Line) → line_of text ≡ line → line ≢ Blank → text ≡ [] → ⊥
unfolding line_of
some_text text line says some none = some (sym says ∙ ap line_of none)

-- at the line
pub after_line : (MayCome : List ℕ → Type 0) (before : ℕ) (known : Option (List ℕ)) (texts : List (List ℕ)) (line : List ℕ) (count : ℕ) → (line ≡ [] → ⊥) → ReadsPrefix known (texts ++ line ∷ []) → count ≡ before + length texts + 1 → MayCome line → OutOfMemoryAt MayCome before known texts line count
after_line MayCome before known texts [] count some prefix counted may = absurd (some refl)
after_line MayCome before known texts (b ∷ bs) count some prefix counted may = (prefix, counted, may)

-- after all
pub after_none : (MayCome : List ℕ → Type 0) (before : ℕ) (known : Option (List ℕ)) (texts : List (List ℕ)) (line : List ℕ) (count : ℕ) → line ≡ [] → ReadsPrefix known texts → count ≡ before + length texts → OutOfMemoryAt MayCome before known texts line count
after_none MayCome before known texts line count none prefix counted = subst (λ (l : List ℕ). OutOfMemoryAt MayCome before known texts l count) (sym none) (prefix, counted)

asks_come : (before : List Line) (line : Line) → asks line ≡ true → may_come before line ≡ true
asks_come before line asked = rw asked refl

makes_come : (before : List Line) (line : Line) → list_all makes before ≡ true → line ≢ Bad → may_come before line ≡ true
makes_come before Blank all good = refl
makes_come before (Make maker) all good = all
makes_come before (Ask question) all good = refl
makes_come before Bad all good = absurd (good refl)

-- it was refused while lines were made
pub refused_making : (input : List ℕ) (texts : List (List ℕ)) (line : List ℕ) (count : ℕ) → AllMake texts → OutOfMemoryAt (λ text. line_after texts text ≢ Bad) 0 (Some input) texts line count →
    (more : List (List ℕ)) × (lines input ≡ texts ++ more) × IsRefusedAfter texts more line count
refused_making input texts [] count all (prefix, counted) = (prefix.0, prefix.1, omega (arith, counted))
refused_making input texts (b ∷ bs) count all (prefix, counted, good) =
    ((b ∷ bs) ∷ prefix.0, prefix.1 ∙ append_assoc texts ((b ∷ bs) ∷ []) prefix.0, (omega (arith, counted), prefix.0, refl, makes_come (script texts) (line_after texts (b ∷ bs)) all good))

-- it was refused at a question
pub refused_asking : (texts rest : List (List ℕ)) (line : List ℕ) (count : ℕ) (question : Question) → line_of line ≡ Ask question → count ≡ length texts + 1 → IsRefusedAfter texts (line ∷ rest) line count
refused_asking texts rest [] count question is counted = absurd (some_text [] (Ask question) is (λ e. cc) refl)
refused_asking texts rest (b ∷ bs) count question is counted =
    (counted, rest, refl, asks_come (script texts) (line_after texts (b ∷ bs)) (ap asks (after_question texts (b ∷ bs) question is)))

-- at a line that asks, after others
pub refused_after : (texts rest : List (List ℕ)) (line : List ℕ) (count : ℕ) → (line ≡ [] → ⊥) → count ≡ length texts + 1 → asks (line_of line) ≡ true → IsRefusedAfter texts (line ∷ rest) line count
refused_after texts rest [] count some counted asked = absurd (some refl)
refused_after texts rest (b ∷ bs) count some counted asked =
    (counted, rest, refl, asks_come (script texts) (line_after texts (b ∷ bs)) (ap asks (suffix_is texts (b ∷ bs) asked) ∙ asked))
