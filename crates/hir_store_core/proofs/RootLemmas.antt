-- Root search by halving: the ends of the roots of a store rise, and what halving finds is the first root whose end exceeds the id.
use Rattle.std.proofs.Common.{◌≡◌, ℕ, zero, suc, ◌+◌, ◌-◌, ◌*◌, ◌^◌, ◌<◌, ◌≤◌, Bool, true, false, List, [], ◌∷◌, None, inl, inr, refl, sym, ◌∙◌, subst, arith, length, get_or, slice_get}
use Rattle.std.specs.List.{find}
use Rattle.std.proofs.Math.Nat.{pow-suc}
use Rattle.std.proofs.lemmas.Bool.{cases_lt, lt-ltb, le-ltb}
use Rattle.std.proofs.lemmas.Option.{slice_get_past}
use Rattle.hir_forest.specs.declared.roots.Ends.{Ends}
use Rattle.hir_forest.specs.declared.roots.Root.{Root}
use Rattle.hir_forest.specs.Faults.{EndsFit, no_ends, ends_before}
use Rattle.hir_validate.specs.Faults.{RootedNodes, ends_of}
use Rattle.hir_validate.specs.Sound.{RootsStandApart}
use Rattle.hir_store_core.specs.declared.root_search.EndOf.{EndOf}
use Rattle.hir_store_core.specs.declared.root_search.EndOf.TheVariants as ends
use Rattle.hir_store_core.specs.RootSearch.{end_of, exceeds}
use Rattle.hir_store_core.specs.internal.RootSearch.{end_at, EndsRise}

-- half of fewer than 2 ^ m is fewer than 2 ^ (m - 1)
pub half_is_fewer : (w v m : ℕ) → 0 < w → v + v ≤ w → w < 2 ^ m → (n : ℕ) × (suc n ≡ m) × (v < 2 ^ n)
half_is_fewer w v zero pos half lt = absurd (omega arith)
half_is_fewer w v (suc n) pos half lt = (n, refl, (let twice : w < 2 ^ n * 2 = rw pow-suc at lt in omega arith))

-- the first that passes is the one with none before it that passes
pub find_here : {X : Type 0} (test : X → Bool) (xs : List X) (i : ℕ) (d : X) → ((j : ℕ) → j < i → test (get_or xs j d) ≡ false) → i < length xs → test (get_or xs i d) ≡ true → find test xs ≡ slice_get xs i
find_here test [] i d before lt h = absurd (omega arith)
find_here test (x ∷ xs) zero d before lt h = rw h refl
find_here test (x ∷ xs) (suc i) d before lt h = rw (before 0 (omega arith)) (find_here test xs i d (λ j l. before (suc j) (omega arith)) (omega arith) h)

pub find_none : {X : Type 0} (test : X → Bool) (xs : List X) (d : X) → ((j : ℕ) → j < length xs → test (get_or xs j d) ≡ false) → find test xs ≡ None
find_none test [] d before = refl
find_none test (x ∷ xs) d before = rw (before 0 (omega arith)) (find_none test xs d (λ j l. before (suc j) (omega arith)))

abbrev no_root : Root
no_root = record { node = 0; ends = no_ends }

-- the ends of a root come after those of the root before it
ends_behind : (roots : List Root) (i : ℕ) → i < length roots → ends_before roots (suc i) ≡ (get_or roots i no_root).ends
ends_behind [] i h = absurd (omega arith)
ends_behind (root ∷ roots) zero h = refl
ends_behind (root ∷ roots) (suc i) h = ends_behind roots i (omega arith)

fits_kind : (kind : EndOf) (lengths earlier later : Ends) → EndsFit lengths earlier later → end_of kind earlier ≤ end_of kind later
fits_kind ends.Exprs lengths earlier later h = h.0
fits_kind ends.Pats lengths earlier later h = h.2
fits_kind ends.Bindings lengths earlier later h = h.4

pub ends_rise : (kind : EndOf) (c : RootedNodes) → RootsStandApart c → EndsRise kind c.roots
ends_rise kind c stand i j le lt = let steps = up (j - i) in subst (λ (k : ℕ). end_at kind c.roots i ≤ end_at kind c.roots k) (let e : i + (j - i) ≡ j = omega arith in e) (steps (omega arith))
  where
    next : (k : ℕ) → suc k < length c.roots → end_at kind c.roots k ≤ end_at kind c.roots (suc k)
    next k h =
        let fits = fits_kind kind (ends_of c.nodes) (ends_before c.roots (suc k)) (ends_before c.roots (suc (suc k))) (stand.ends_rise (suc k) h) in
        rw (ends_behind c.roots k (omega arith), ends_behind c.roots (suc k) h) at fits

    up : (d : ℕ) → i + d < length c.roots → end_at kind c.roots i ≤ end_at kind c.roots (i + d)
    up zero h = subst (λ (k : ℕ). end_at kind c.roots i ≤ end_at kind c.roots k) (let e : i ≡ i + 0 = omega arith in e) (omega arith)
    up (suc d) h =
        let here = up d (omega arith) in
        let more = next (i + d) (omega arith) in
        subst (λ (k : ℕ). end_at kind c.roots i ≤ end_at kind c.roots k) (let e : suc (i + d) ≡ i + suc d = omega arith in e) (omega arith)

-- each step leaves half, and so one digit fewer
pub digits_left : (n w v old now next : ℕ) → 0 < w → v + v ≤ w → next ≡ now + 1
    → ((k : ℕ) → n < 2 ^ k → (m : ℕ) × (w < 2 ^ m) × (now + m ≤ old + k))
    → (k : ℕ) → n < 2 ^ k → (m : ℕ) × (v < 2 ^ m) × (next + m ≤ old + k)
digits_left n w v old now next pos half is left k h =
    let x = left k h in
    let y = half_is_fewer w v x.0 pos half x.1 in
    (y.0, y.2, omega (arith, x.2, y.1, is))

-- halving ends where the first is whose end exceeds the id
pub found_at : (kind : EndOf) (roots : List Root) (id n : ℕ)
    → ((i : ℕ) → i < n → end_at kind roots i ≤ id)
    → ((i : ℕ) → n ≤ i → i < length roots → id < end_at kind roots i)
    → find (exceeds kind id) roots ≡ slice_get roots n
found_at kind roots id n before behind =
    elim (cases_lt n (length roots)) [
      | inl h ↦ find_here (exceeds kind id) roots n no_root (λ j l. le-ltb id (end_at kind roots j) (before j l)) h (lt-ltb id (end_at kind roots n) (behind n (omega arith) h))
      | inr h ↦ find_none (exceeds kind id) roots no_root (λ j l. le-ltb id (end_at kind roots j) (before j (omega arith))) ∙ sym (slice_get_past roots n h)
    ]
