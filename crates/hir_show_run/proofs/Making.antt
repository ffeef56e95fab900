-- What the lines make, line by line.
use Rattle.std.proofs.Common.{◌≡◌, true, List, [], ◌∷◌, ◌++◌, Option, None, Some, inl, inr, if◌then◌else◌, refl, sym, ap, ◌∙◌, ℕ, fold, filter_map}
use Rattle.std.proofs.lemmas.List.Folds.{list_all-append}
use Rattle.std.proofs.lemmas.List.Elements.{filter_map-append}
use Rattle.std.proofs.lemmas.Grind.{fold-append}
use Rattle.hir_show_grammar.specs.Line.{Line, Blank, Make, Ask, Bad, makes, asks, line_of}
use Rattle.hir_show_grammar.specs.Makers.{Maker}
use Rattle.hir_show_run.specs.Parts.{Parts, no_parts, with_line}
use Rattle.hir_show_io.specs.LineState.{LineState}
use Rattle.hir_show_run.specs.Program.{maker_of, built_by, script, line_after}
use Rattle.hir_show_run.specs.internal.Stages.{AllMake, Makes, MakesOrLeaves}
use Rattle.hir_show_run.proofs.Scripts.{Tells, script-push, suffix_is, after_make, tells_blank, tells_more}

pub Makes-none : Makes [] no_parts
unfolding built_by
Makes-none = (refl, refl)

-- one line more
with_option : Parts → Option Maker → Parts
with_option b None = b
with_option b (Some maker) = with_line b maker

built_by-push : (ls : List Line) (line : Line) → built_by (ls ++ line ∷ []) ≡ with_option (built_by ls) (maker_of line)
unfolding built_by with_option
built_by-push ls line = ap (fold with_line no_parts) (filter_map-append maker_of ls (line ∷ [])) ∙ fold-append with_line no_parts (filter_map maker_of ls) (filter_map maker_of (line ∷ [])) ∙ one line
  where
    one : (line : Line) → fold with_line (fold with_line no_parts (filter_map maker_of ls)) (filter_map maker_of (line ∷ [])) ≡ with_option (fold with_line no_parts (filter_map maker_of ls)) (maker_of line)
    one Blank = refl
    one (Make maker) = refl
    one (Ask question) = refl
    one Bad = refl

makes-push : (texts : List (List ℕ)) (text : List ℕ) (line : Line) → line_after texts text ≡ line → AllMake texts → makes line ≡ true → AllMake (texts ++ text ∷ [])
makes-push texts text line e all m =
    rw (script-push texts text, list_all-append makes (script texts) (line_after texts text ∷ []), all, e, m) refl

pub Makes-blank : (texts : List (List ℕ)) (text : List ℕ) (built : Parts) → Makes texts built → line_after texts text ≡ Blank → Makes (texts ++ text ∷ []) built
unfolding with_option
Makes-blank texts text built m e =
    (makes-push texts text Blank e m.0 refl, m.1 ∙ sym (ap built_by (script-push texts text) ∙ built_by-push (script texts) (line_after texts text) ∙ ap (λ line. with_option (built_by (script texts)) (maker_of line)) e))

pub Makes-more : (texts : List (List ℕ)) (text : List ℕ) (old new : Parts) (maker : Maker) → Makes texts old → line_after texts text ≡ Make maker → new ≡ with_line old maker → Makes (texts ++ text ∷ []) new
unfolding with_option
Makes-more texts text old new maker m e made =
    (makes-push texts text (Make maker) e m.0 refl, made ∙ ap (λ b. with_line b maker) m.1 ∙ sym (ap built_by (script-push texts text) ∙ built_by-push (script texts) (line_after texts text) ∙ ap (λ line. with_option (built_by (script texts)) (maker_of line)) e))

-- the line that was taken last makes what it says, or is empty
pub makes_line : (lines : LineState) (old new : Parts) (texts : List (List ℕ)) →
    Makes texts old → Tells old texts → MakesOrLeaves (line_of lines.line) old new true → Makes (texts ++ lines.line ∷ []) new × Tells new (texts ++ lines.line ∷ [])
makes_line lines old new texts m t (inl (blank, same)) =
    rw same (Makes-blank texts lines.line old m (suffix_is texts lines.line (ap asks blank) ∙ blank), tells_blank old texts lines.line blank t)
makes_line lines old new texts m t (inr (maker, says, first, made)) =
    (Makes-more texts lines.line old new maker m (after_make old texts lines.line maker t says ∙ ap (λ b. if b then Bad else Make maker) first) made, rw made (tells_more old maker texts lines.line says t))
