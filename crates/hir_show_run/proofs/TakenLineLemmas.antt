-- What taking a line does: to the place of a run, and to what the code has made.
use Rattle.std.proofs.Common.{◌≡◌, ◌≢◌, Bool, true, false, Option, None, Some, if◌then◌else◌, inl, inr, ◌⊎◌, refl, ap, ◌∙◌, is_some, true≢false}
use Rattle.hir_show_grammar.specs.Line.{Line, Blank, Make, Ask, Bad, asks, makes}
use Rattle.hir_show_grammar.specs.Makers.{Maker}
use Rattle.hir_show_grammar.specs.Makers as make
use Rattle.hir_show_grammar.specs.LineEffects.{with_line as with_text}
use Rattle.hir_show_grammar.specs.declared.question.Question.{Question}
use Rattle.hir_show_run.specs.declared.body_builder.BodyBuilder as code
use Rattle.hir_show_run.specs.internal.Parts.{builder_parts, with_maker, is_second}
use Rattle.hir_show_run.specs.Parts.{with_line}
use Rattle.hir_show_run.specs.internal.Stages.{MakesOrLeaves}

-- the code has what the line makes
made_with : (m : code.BodyBuilder) (maker : Maker) → builder_parts (with_maker m maker) ≡ with_line (builder_parts m) maker
made_with m (make.Binding binding) = refl
made_with m (make.Pat pat) = refl
made_with m (make.TypeRef type_ref) = refl
made_with m (make.Expr expr) = refl
made_with m (make.Hygiene id hygiene) = refl
made_with m (make.SelfParam id) = refl
made_with m (make.Param id) = refl
made_with m (make.FnName name) = refl
made_with m make.Roots = refl
made_with m (make.Root id) = refl

-- what is made by a line
abbrev pub with_line_of : code.BodyBuilder → Line → Option code.BodyBuilder
with_line_of old line = with_text (λ (m : code.BodyBuilder). is_some m.self_param) (λ (m : code.BodyBuilder). is_some m.name) with_maker old line

one_more : (old new : code.BodyBuilder) (maker : Maker) (second : Bool) → (if second then None else Some (with_maker old maker)) ≡ Some new → (second ≡ false) × (new ≡ with_maker old maker)
one_more old new maker true e = cc
one_more old new maker false e = (refl, cc)

-- a line that was taken is empty or makes something; another one is left
pub made_or_left : (line : Line) (old new : code.BodyBuilder) (is_taken : Bool) → (is_taken ≡ true → with_line_of old line ≡ Some new) → (is_taken ≡ false → (new ≡ old) × (makes line ≡ false)) →
    MakesOrLeaves line (builder_parts old) (builder_parts new) is_taken
made_or_left line old new false here left = ((left refl).1, ap builder_parts (left refl).0)
made_or_left Blank old new true here left = let e = here refl in let same : new ≡ old = cc in inl (refl, ap builder_parts same)
made_or_left (Make maker) old new true here left =
    let found = one_more old new maker (is_second (builder_parts old) maker) (here refl) in
    inr (maker, refl, found.0, ap builder_parts found.1 ∙ made_with old maker)
made_or_left (Ask question) old new true here left = let e = here refl in cc
made_or_left Bad old new true here left = let e = here refl in cc

second_so : (old : code.BodyBuilder) (maker : Maker) (second : Bool) → (if second then None else Some (with_maker old maker)) ≡ None → second ≡ true
second_so old maker true e = refl
second_so old maker false e = cc

-- one that is refused is bad, or gives a second self parameter or name
pub no_line : (line : Line) (old : code.BodyBuilder) → asks line ≡ false → with_line_of old line ≡ None →
    (line ≡ Bad) ⊎ ((maker : Maker) × (line ≡ Make maker) × (is_second (builder_parts old) maker ≡ true))
no_line Blank old asked e = cc
no_line (Make maker) old asked e = inr (maker, refl, second_so old maker (is_second (builder_parts old) maker) e)
no_line (Ask question) old asked e = absurd (true≢false asked)
no_line Bad old asked e = inl refl

first_so : (old : code.BodyBuilder) (maker : Maker) (second : Bool) → ((if second then None else Some (with_maker old maker)) ≡ None → ⊥) → second ≡ false
first_so old maker true e = absurd (e refl)
first_so old maker false e = refl

-- or an allocation for it failed: it makes something, and isn't second
pub no_memory : (line : Line) (old : code.BodyBuilder) → asks line ≡ false → (with_line_of old line ≡ None → ⊥) →
    (maker : Maker) × (line ≡ Make maker) × (is_second (builder_parts old) maker ≡ false)
no_memory Blank old asked e = absurd (true≢false asked)
no_memory (Make maker) old asked e = (maker, refl, first_so old maker (is_second (builder_parts old) maker) e)
no_memory (Ask question) old asked e = absurd (true≢false asked)
no_memory Bad old asked e = absurd (e refl)

-- a line that isn't empty and asks
pub question_of : (line : Line) → line ≢ Blank → (asks line ≡ false → ⊥) → (question : Question) × (line ≡ Ask question)
question_of Blank some asked = absurd (some refl)
question_of (Make maker) some asked = absurd (asked refl)
question_of (Ask question) some asked = (question, refl)
question_of Bad some asked = absurd (asked refl)
