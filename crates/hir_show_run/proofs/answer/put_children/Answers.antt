use Rattle.std.proofs.Common.{◌≡◌, List, [], ◌++◌, ◌∷◌, refl, sym, ◌∙◌}
use Rattle.std.specs.List.{FoldsTo}
use Rattle.std.proofs.lemmas.Fn.{chained_keeps}
use Rattle.hir_show_run.specs.Answer.{after_spaces}
use Rattle.hir_show_run.specs.internal.Output.{OutputsText}
use Rattle.hir_show_run.proofs.WritingLemmas.{put_none, spaced_then}
use Rattle.hir_show_run.proofs.answer.put_children.Goals as goal

-- what is kept by each turn is kept by all
turns_keep : {P A : Type 0} {turn : P → A → P → Type 0} {old new : P} {xs : List A} → FoldsTo {P = P} turn old xs new → (Keeps : List A → P → Type 0)
    → ((ys : List A) (p : P) (y : A) (q : P) → Keeps ys p → turn p y q → Keeps (ys ++ y ∷ []) q) → Keeps [] old → Keeps xs new
turns_keep {P} {turn = turn} {old} {new} {xs} runs Keeps more none = chained_keeps {P = P} turn Keeps more xs old new none runs

-- the closure was called at each child, so all of them were put
pub returns : goal.returns
returns g c =
    let kept = turns_keep c.walk_child_exprs.ensures.runs (λ numbers st. (st.0.ghost_name ≡ c.walk_child_exprs-arg-1.given) × OutputsText g.W.Sink c.args.output.now st.0.now (after_spaces numbers))
    (λ numbers old n new so_far called.
    let step = called.met in
    (step.1.0 ∙ so_far.0, spaced_then g.W.Sink c.args.output.now old.0.now new.0.now numbers n so_far.1 step.1.1))
    (refl, put_none g.W.Sink c.args.output.now) in
    rw (c.output-1.given.1 (sym kept.0)) kept.1
