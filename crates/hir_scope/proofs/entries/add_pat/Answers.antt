use Rattle.std.proofs.Common.{◌≡◌, List, [], ◌∷◌, ◌++◌, Ok, Err, ap, ◌∙◌, refl, sym}
use Rattle.std.proofs.lemmas.{Fn.chained_keeps, List.flat_map_more, List.append-nil, Result.on_ok_weaker}
use Rattle.std.specs.{List.flat_map, Prelude.Result, Prelude.OnOk}
use Rattle.hir_store_core.specs.Tries.{Tries}
use Rattle.hir_store_core.proofs.TryLemmas.{turns_keep}
use Rattle.hir_scope.specs.Frames.{entry_at}
use Rattle.hir_scope.proofs.entries.add_pat.Goals as goal

-- Along a walk that can stop: what each item keeps holds where the walk went to its end.
module _ {P A E : Type 0} {step : P → A → Result (Unit {0}) E → P → Type 0} where
  tries_keep : {xs : List A} {p q : P} (r : Result (Unit {0}) E) → Tries step p xs r q → (J : List A → P → Type 0) →
      ((ys : List A) (u : P) (x : A) (v : P) → J ys u → step u x (Ok tt) v → J (ys ++ x ∷ []) v) → J [] p →
      OnOk r (J xs q)
  tries_keep {xs} {p} {q} (Ok done) t J keeps j = chained_keeps (λ u y v. step u y (Ok tt) v) J keeps xs p q j t.ok
  tries_keep (Err e) t J keeps j = tt

-- one item more, at the end of what was added
added_more : {A X : Type 0} (f : A → List X) (before now new : List X) (xs : List A) (x : A) → now
    ≡ before ++ flat_map f xs → new ≡ now ++ f x → new ≡ before ++ flat_map f (xs ++ x ∷ [])
added_more {X = X} f before now new xs x h s = s ∙ (ap (λ (es : List X). es ++ f x) h ∙ flat_map_more f before xs x)

-- the walk went over each binding, so the entries of all were added
pub returns-clause-ok : goal.returns-clause-ok
returns-clause-ok c =
    let nodes = c.args.store.now.nodes in
    let es = c.args.entries.now.items in
    let runs = c.try_walk_bindings_in_pat.ensures.runs in
    let name = turns_keep (λ s. s.0.ghost_name) (λ s t x r called. called.met.1.0.0) _ c.try_walk_bindings_in_pat.result runs in
    let kept = tries_keep c.try_walk_bindings_in_pat.result runs
    (λ ys st. (st.1 ≡ c.args.store) × (st.0.now.items ≡ es ++ flat_map (entry_at nodes) ys))
    (λ ys u x v j called. (
      called.met.1.0.1 ∙ j.0,
      added_more (entry_at nodes) es u.0.now.items v.0.now.items ys x j.1
          (called.met.1.1.0 ∙ ap (λ b. u.0.now.items ++ entry_at b.now.nodes x) j.0),
    ))
    (refl, sym (append-nil es)) in
    on_ok_weaker c.try_walk_bindings_in_pat.result (λ k. rw (c.entries-1.given.1 (sym name)) k.1) kept
