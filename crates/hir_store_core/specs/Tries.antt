-- A walk that can stop: items are tried one after the other, up to the first that is refused.
use Rattle.std.specs.Prelude.{◌≡◌, ◌∷◌, ◌++◌}
use Rattle.hir_store_core.specs.Prelude.{List, Result, Ok, Err, OnOk, IfErr, FoldsTo}

-- the items of a prefix were accepted, and the one after them was refused with this; none after that one was
-- tried
abbrev pub Stops : {P A E : Type 0} → (P → A → Result (Unit {0}) E → P → Type 0) → P → List A → E → P → Type 0
Stops {P} {A} step p xs e q = (front more : List A) × (x : A) × (j : P) × (xs ≡ front ++ x ∷ more)
    × FoldsTo (λ u y v. step u y (Ok tt) v) p front j × step j x (Err e) q

-- the result is `Ok` where each item was tried and accepted, and else the first refusal
pub record Tries {P A E : Type 0} (step : P → A → Result (Unit {0}) E → P
    → Type 0) (p : P) (xs : List A) (r : Result (Unit {0}) E) (q : P) : Type 0 where
  pub ok : OnOk r (FoldsTo (λ u y v. step u y (Ok tt) v) p xs q)
  pub err : IfErr r (λ e. Stops step p xs e q)
