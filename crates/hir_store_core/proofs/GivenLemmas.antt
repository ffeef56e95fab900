-- An id that an iterator over items with their ids gave is that of an item.
use Rattle.std.proofs.Common.{◌≡◌, ℕ, ◌+◌, ◌<◌, List, [], ◌∷◌, length, ap, arith}
use Rattle.std.specs.List.{enumerate_from}
use Rattle.std.specs.Iterator.{Yields, YieldsFirstBy}

pub id_given : {A X : Type 0} (view : A → ℕ × X) (n : ℕ) (es : List X) (s t rest : List (ℕ × X)) (xs : List A) (item : ℕ × X)
    → s ≡ enumerate_from n es → Yields (YieldsFirstBy view (λ left. left)) s xs t → t ≡ item ∷ rest → item.0 < n + length es
id_given view n [] s t rest [] item is y e = absurd (cc)
id_given view n (x ∷ es) s t rest [] item is y e =
    let same : (n, x) ≡ item = cc in
    let id : n ≡ item.0 = ap (λ p. p.0) same in
    omega arith
id_given view n [] s t rest (a ∷ xs) item is (j, step, y) e = absurd (cc)
id_given view n (x ∷ es) s t rest (a ∷ xs) item is (j, step, y) e =
    let next : j ≡ enumerate_from (n + 1) es = cc in
    let h = id_given view (n + 1) es j t rest xs item next y e in
    omega arith

pub id_is_in_range : {A X : Type 0} (view : A → ℕ × X) (es : List X) (s t rest : List (ℕ × X)) (xs : List A) (id : ℕ) (x : X)
    → t ≡ (id, x) ∷ rest → Yields (YieldsFirstBy view (λ left. left)) s xs t → s ≡ enumerate_from 0 es → id < length es
id_is_in_range view es s t rest xs id x e y is = let h = id_given view 0 es s t rest xs (id, x) is y e in omega arith
