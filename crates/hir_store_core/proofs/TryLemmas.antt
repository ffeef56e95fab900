-- Trying items up to the first that is refused: one after the other, and through what a visitor holds.
use Rattle.std.proofs.Common.{◌≡◌, List, [], ◌∷◌, ◌++◌, Ok, Err, refl, ap, sym, ◌∙◌, subst, append_assoc}
use Rattle.std.specs.Prelude.{Result, IsErrAnd, is_ok, true}
use Rattle.std.specs.List.{flat_map, FoldsTo}
use Rattle.std.proofs.lemmas.List.Concat.{flat_map-append}
use Rattle.hir_node.specs.Runs.{Runs, no_call, a_call, MayRun}
use Rattle.hir_node.proofs.ChildPatLemmas.{folds_on}
use Rattle.hir_node.proofs.RunLemmas.{may_then}
use Rattle.hir_store_core.specs.Tries.{Stops, Tries}
use Rattle.hir_store_core.specs.internal.Tries.{TriesAfter}

-- the step of an item that goes on
abbrev pub goes : {P A E : Type 0} → (P → A → Result (Unit {0}) E → P → Type 0) → P → A → P → Type 0
goes step u x v = step u x (Ok tt) v

module _ {P A E : Type 0} {step : P → A → Result (Unit {0}) E → P → Type 0} where
  tries_went : {p q : P} {xs : List A} → FoldsTo (goes step) p xs q → Tries step p xs (Ok tt) q
  tries_went h = record { ok = h; err = tt }

  tries_stops : {p q : P} {xs : List A} {e : E} → Stops step p xs e q → Tries step p xs (Err e) q
  tries_stops h = record { ok = tt; err = h }

  pub tries_none : {p : P} → Tries step p [] (Ok tt) p
  tries_none = tries_went refl

  pub tries_one : (r : Result (Unit {0}) E) {p q : P} {x : A} → step p x r q → Tries step p (x ∷ []) r q
  tries_one (Ok done) {p} {q} {x} s = tries_went (q, s, refl)
  tries_one (Err e) {p} {q} {x} s = tries_stops ([], [], x, p, refl, refl, s)

  -- what went on, and then the others
  pub tries_append : (xs ys : List A) (r : Result (Unit {0}) E) {p j q : P} → Tries step p xs (Ok tt) j → Tries step j ys r q → Tries step p (xs ++ ys) r q
  tries_append xs ys (Ok done) {p} {j} {q} h k = tries_went (folds_on (goes step) xs ys p j q h.ok k.ok)
  tries_append xs ys (Err e) {p} {j} {q} h k =
      let s = k.err in
      tries_stops (xs ++ s.0, s.1, s.2, s.3, ap (λ zs. xs ++ zs) s.4 ∙ sym (append_assoc xs s.0 (s.2 ∷ s.1)), folds_on (goes step) xs s.0 p j s.3 h.ok s.5, s.6)

  -- what was refused, before others that aren't tried
  pub tries_front : (xs ys : List A) {p q : P} {e : E} → Tries step p xs (Err e) q → Tries step p (xs ++ ys) (Err e) q
  tries_front xs ys h =
      let s = h.err in
      tries_stops (s.0, s.1 ++ ys, s.2, s.3, ap (λ zs. zs ++ ys) s.4 ∙ append_assoc s.0 (s.2 ∷ s.1) ys, s.5, s.6)

module _ {P A E : Type 0} (step : P → A → Result (Unit {0}) E → P → Type 0) where
  pub after_one : (p q : P) (x : A) (a r : Result (Unit {0}) E) → a ≡ Ok tt → step p x r q → TriesAfter step a p (x ∷ []) r q
  after_one p q x a r is s = rw is (tries_one r s)

  pub after_all : (p q : P) (xs : List A) (a r : Result (Unit {0}) E) → a ≡ Ok tt → Tries step p xs r q → TriesAfter step a p xs r q
  after_all p q xs a r is h = rw is h

  pub after_none : (p : P) (a : Result (Unit {0}) E) → TriesAfter step a p [] a p
  after_none p (Ok done) = tries_none
  after_none p (Err e) = (refl, refl)

  pub after_refusal : (p : P) (xs : List A) (a : Result (Unit {0}) E) (e : E) → a ≡ Err e → TriesAfter step a p xs a p
  after_refusal p xs a e is = rw is (refl, refl)

  pub after_append : (xs ys : List A) (p j q : P) (a b r : Result (Unit {0}) E) → TriesAfter step a p xs b j → TriesAfter step b j ys r q → TriesAfter step a p (xs ++ ys) r q
  after_append xs ys p j q (Ok done) (Ok again) r h k = tries_append xs ys r h k
  after_append xs ys p j q (Ok done) (Err e) r h k = rw (k.0, k.1) (tries_front xs ys h)
  after_append xs ys p j q (Err e) b r h k =
      let same = subst (λ (c : Result (Unit {0}) E). TriesAfter step c j ys r q) h.0 k in
      (same.0, same.1 ∙ h.1)

-- each call of a visitor tries what it gives
module _ {V C P A E : Type 0} {step : V → C → V → Type 0} (R : P → A → Result (Unit {0}) E → P → Type 0) (answer : V → Result (Unit {0}) E) (held : V → P) (gives : C → List A)
    (Q : V → Type 0) (f : (v w : V) (c : C) → Q v → step v c w → TriesAfter R (answer v) (held v) (gives c) (answer w) (held w) × Q w) where
  pub tries_through : {v w : V} {cs : List C} → Q v → Runs step v cs w → TriesAfter R (answer v) (held v) (flat_map gives cs) (answer w) (held w)
  tries_through {v} h no_call = after_none R (held v) (answer v)
  tries_through h (a_call {u} {v} {w} {c} {cs} s r) =
      let one = f u v c h s in
      after_append R (gives c) (flat_map gives cs) (held u) (held v) (held w) (answer u) (answer v) (answer w) one.0 (tries_through one.1 r)

-- each turn of a visitor that may refuse it tries what it gives
module _ {V C P A E : Type 0} {step : V → C → Result (Unit {0}) E → V → Type 0} (R : P → A → Result (Unit {0}) E → P → Type 0) (held : V → P) (gives : C → List A)
    (Q : V → Type 0) (f : (v w : V) (c : C) (r : Result (Unit {0}) E) → Q v → step v c r w → Tries R (held v) (gives c) r (held w) × Q w) where
  turns_went : (cs : List C) (v w : V) → Q v → FoldsTo (goes step) v cs w → Tries R (held v) (flat_map gives cs) (Ok tt) (held w) × Q w
  turns_went [] v w h is = (tries_went (ap held is), subst Q is h)
  turns_went (c ∷ cs) v w h s =
      let one = f v s.0 c (Ok tt) h s.1 in
      let rest = turns_went cs s.0 w one.1 s.2 in
      (tries_append (gives c) (flat_map gives cs) (Ok tt) one.0 rest.0, rest.1)

  pub turns_through : (cs : List C) (r : Result (Unit {0}) E) {v w : V} → Q v → Tries step v cs r w → Tries R (held v) (flat_map gives cs) r (held w) × Q w
  turns_through cs (Ok done) {v} {w} h t = turns_went cs v w h t.ok
  turns_through cs (Err e) {v} {w} h t =
      let s = t.err in
      let before = turns_went s.0 v s.3 h s.5 in
      let last = f s.3 w s.2 (Err e) before.1 s.6 in
      let all = tries_append (flat_map gives s.0) (gives s.2 ++ flat_map gives s.1) (Err e) before.0 (tries_front (gives s.2) (flat_map gives s.1) last.0) in
      (subst (λ (xs : List A). Tries R (held v) xs (Err e) (held w)) (sym (ap (flat_map gives) s.4 ∙ flat_map-append gives s.0 (s.2 ∷ s.1))) all, last.1)

module _ {V C E X : Type 0} {step : V → C → Result (Unit {0}) E → V → Type 0} (part : V → X) (f : (v w : V) (c : C) (r : Result (Unit {0}) E) → step v c r w → part w ≡ part v) where
  went_keep : (cs : List C) (v w : V) → FoldsTo (goes step) v cs w → part w ≡ part v
  went_keep [] v w is = ap part (sym is)
  went_keep (c ∷ cs) v w s = went_keep cs s.0 w s.2 ∙ f v s.0 c (Ok tt) s.1

  -- each turn keeps a part
  pub turns_keep : (cs : List C) (r : Result (Unit {0}) E) {v w : V} → Tries step v cs r w → part w ≡ part v
  turns_keep cs (Ok done) {v} {w} t = went_keep cs v w t.ok
  turns_keep cs (Err e) {v} {w} t = let s = t.err in f s.3 w s.2 (Err e) s.6 ∙ went_keep s.0 v s.3 s.5

-- the same value at the end
pub tries_to : {P A E : Type 0} {R : P → A → Result (Unit {0}) E → P → Type 0} {p q w : P} {xs : List A} {r : Result (Unit {0}) E} → w ≡ q → Tries R p xs r q → Tries R p xs r w
tries_to is h = rw is h

pub tries_at : {P A E : Type 0} {R : P → A → Result (Unit {0}) E → P → Type 0} {p q w : P} {xs : List A} {r o : Result (Unit {0}) E} → w ≡ q → o ≡ r → Tries R p xs r q → Tries R p xs o w
tries_at is o h = rw (is, o) h

-- what `is_ok` says
pub ok_is : {E : Type 0} (r : Result (Unit {0}) E) → is_ok r ≡ true → r ≡ Ok tt
ok_is (Ok done) h = refl
ok_is (Err e) h = absurd (cc)

-- what `?` hands on
pub err_is : {X E : Type 0} (r : Result X E) (e : E) → IsErrAnd r (λ d. d ≡ e) → r ≡ Err e
err_is (Ok x) e h = absurd h
err_is (Err d) e h = ap Err h

-- the items `rest` are still to be tried, after which all were
pub record Trying {V C E : Type 0} (may : V → C → Type 0) (step : V → C → Result (Unit {0}) E → V → Type 0) (start : V) (all : List C) (now : V) (rest : List C) : Type 0 where
  pub can : MayRun may (goes step) now rest
  pub ends : (r : Result (Unit {0}) E) (last : V) → Tries step now rest r last → Tries step start all r last

module _ {V C E : Type 0} (may : V → C → Type 0) (step : V → C → Result (Unit {0}) E → V → Type 0) (start : V) (all : List C) where
  pub trying_from : MayRun may (goes step) start all → Trying may step start all start all
  trying_from m = record { can = m; ends = λ r last t. t }

  module _ (now : V) where
    pub trying_ended : Trying may step start all now [] → Tries step start all (Ok tt) now
    trying_ended g = g.ends (Ok tt) now tries_none

    module _ (c : C) (rest : List C) (g : Trying may step start all now (c ∷ rest)) (then : V) where
      pub trying_on : step now c (Ok tt) then → Trying may step start all then rest
      trying_on s = record {
        can = may_then g.can s;
        ends = λ r last t. g.ends r last (tries_append (c ∷ []) rest r (tries_one (Ok tt) s) t);
      }

      pub trying_refused : (e : E) → step now c (Err e) then → Tries step start all (Err e) then
      trying_refused e s = g.ends (Err e) then (tries_front (c ∷ []) rest (tries_one (Err e) s))

-- where no item is refused, each is run
module _ {S P A E : Type 0} {step : S → A → Result (Unit {0}) E → S → Type 0} (R : P → A → P → Type 0) (held : S → P)
    (f : (s t : S) (x : A) (r : Result (Unit {0}) E) → step s x r t → (r ≡ Ok tt) × R (held s) x (held t)) where
  ran : (xs : List A) (s t : S) → FoldsTo (goes step) s xs t → FoldsTo R (held s) xs (held t)
  ran [] s t is = ap held is
  ran (x ∷ xs) s t h = (held h.0, (f s h.0 x (Ok tt) h.1).1, ran xs h.0 t h.2)

  pub all_ran : (xs : List A) (r : Result (Unit {0}) E) {s t : S} → Tries step s xs r t → FoldsTo R (held s) xs (held t)
  all_ran xs (Ok done) {s} {t} h = ran xs s t h.ok
  all_ran xs (Err e) {s} {t} h =
      let stop = h.err in
      let never = f stop.3 t stop.2 (Err e) stop.6 in
      absurd (cc never.0)

-- for the visitors
pub ruleset tries = (tries_none, tries_one, after_one, after_all, after_none, after_refusal)
