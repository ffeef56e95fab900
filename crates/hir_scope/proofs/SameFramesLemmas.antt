-- Lists that no sum tells apart are the same in another order; and the test that decides whether two frames are the same.
use Rattle.std.proofs.Common.{◌≡◌, ℕ, suc, ◌<◌, List, [], ◌∷◌, refl, ap, arith, Bool, true, false, cond, length, get_or}
use Rattle.std.proofs.lemmas.List.Sorted.{IsPermutation-refl, IsPermutation-cons, IsPermutation-remove, IsPermutation-sym, IsPermutation-trans, sum_by-IsPermutation}
use Rattle.std.proofs.lemmas.List.Sums.{sum_by-cons}
use Rattle.std.specs.Bool.{Decides}
use Rattle.std.specs.Cmp.Lexicographic.{pointwise, pointwise_decides}
use Rattle.std.specs.List.{sum_by, remove, Sorted.IsPermutation}
use Rattle.std.specs.Prelude.{◌&&◌}
use Rattle.hir_path.specs.same.Fields.{and_decides}
use Rattle.hir_scope.specs.Frames.{Frame}
use Rattle.hir_scope.specs.contracts.scope.ScopeEntryExactEq.TheImpl.Laws as entry_law
use Rattle.hir_scope.specs.contracts.scope.ScopeEntryPartialEq.TheImpl as entry
use Rattle.hir_scope.specs.contracts.scope.ScopeKindExactEq.TheImpl.Laws as kind_law
use Rattle.hir_scope.specs.contracts.scope.ScopeKindPartialEq.TheImpl as kind

abbrev as_one : Bool → ℕ
as_one b = cond b 1 0

module _ {X : Type 0} (same : X → X → Bool) (decides : (x y : X) → Decides (same x y) (x ≡ y)) where
  -- an item that is counted is in the list
  abbrev HasPlace : X → List X → Type 0
  HasPlace x ys = 0 < sum_by (λ y. as_one (same x y)) ys → (i : ℕ) × (i < length ys) × (x ≡ get_or ys i x)

  place_of : (x : X) (ys : List X) → HasPlace x ys
  place_of x [] h = absurd (omega (arith, h))
  place_of x (y ∷ ys) h = at (place_of x ys) (same x y) refl where
    at : HasPlace x ys → (b : Bool) → same x y ≡ b → (i : ℕ) × (i < length (y ∷ ys)) × (x ≡ get_or (y ∷ ys) i x)
    at later true e = (0, omega arith, (decides x y).0 e)
    at later false e =
        let none : as_one (same x y) ≡ 0 = ap as_one e in
        let r = later (omega (arith, h, none, sum_by-cons (λ z. as_one (same x z)) y ys)) in
        (suc r.0, omega (arith, r.1), r.2)

  pub from_sums : (xs ys : List X) → ((w : X → ℕ) → sum_by w xs ≡ sum_by w ys) → IsPermutation xs ys
  from_sums [] [] h = IsPermutation-refl []
  from_sums [] (y ∷ ys) h = absurd (let a = h (λ z. 1) in omega (arith, a, sum_by-cons (λ (z : X). 1) y ys))
  from_sums (x ∷ xs) ys h =
      let count = λ (y : X). as_one (same x y) in
      let one : as_one (same x x) ≡ 1 = ap as_one ((decides x x).1 refl) in
      let i = place_of x ys (let a = h count in omega (arith, a, sum_by-cons count x xs, one)) in
      let rest = remove ys i.0 in
      let moved = IsPermutation-remove ys i.0 x i.1 i.2 in
      let left = from_sums xs rest (λ w.
      let a = h w in omega (arith, a, sum_by-cons w x xs, sum_by-IsPermutation w ys (x ∷ rest) moved, sum_by-cons w x rest)) in
      IsPermutation-trans (x ∷ xs) (x ∷ rest) ys (IsPermutation-cons x xs rest left) (IsPermutation-sym ys (x ∷ rest) moved)

abbrev pub same_frame : Frame → Frame → Bool
same_frame x y = kind.ghosts.eq x.kind y.kind && pointwise entry.ghosts.eq x.entries y.entries

pub frames_decide : (x y : Frame) → Decides (same_frame x y) (x ≡ y)
frames_decide x y =
    and_decides _ _ (kind_law.lawful.eq_decides x.kind y.kind)
    (pointwise_decides entry_law.lawful.eq_decides x.entries y.entries)
    (λ k e i. record { kind = k i; entries = e i })
    (λ e i. (e i).kind)
    (λ e i. (e i).entries)

-- frames that no sum tells apart
pub same_frames : (xs ys : List Frame) → ((w : Frame → ℕ) → sum_by w xs ≡ sum_by w ys) → IsPermutation xs ys
same_frames = from_sums same_frame frames_decide
