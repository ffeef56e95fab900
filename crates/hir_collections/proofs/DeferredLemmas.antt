-- What is turned over lies in the order in which it was pushed.
use Rattle.std.proofs.Common.{◌≡◌, ℕ, List, [], ◌∷◌, ◌++◌, append_assoc, length, take, drop, refl, sym, ap, ◌∙◌}
use Rattle.std.specs.Prelude.{reverse}
use Rattle.std.proofs.Math.Seq.{take-append_seam, drop-append_seam}
use Rattle.std.proofs.lemmas.List.{reverse-append, length-reverse}
use Rattle.hir_collections.specs.Stacks.{StackItems, Defers}

module _ {X : Type 0} where
  reverse-twice : (xs : List X) → reverse (reverse xs) ≡ xs
  reverse-twice [] = refl
  reverse-twice (x ∷ xs) =
      ap (reverse {A = X}) (reverse-append (x ∷ []) xs)
      ∙ (reverse-append (reverse xs) (x ∷ []) ∙ ap (λ (ys : List X). x ∷ ys) (reverse-twice xs))

  -- a row, seen from its end as `pushed` on `before`, where what was pushed is reversed
  pub turned : (below : ℕ) (row before pushed : List X) → reverse row ≡ reverse pushed ++ before → length before ≡ below → reverse (take below row ++ reverse (drop below row)) ≡ pushed ++ before
  turned below row before pushed seen n =
      let is : row ≡ reverse before ++ pushed =
      sym (reverse-twice row) ∙ (ap (reverse {A = X}) seen ∙ (reverse-append (reverse pushed) before ∙ ap (λ (ys : List X). reverse before ++ ys) (reverse-twice pushed))) in
      let long : below ≡ length (reverse before) = sym (length-reverse before ∙ n) in
      let low : take below row ≡ reverse before = (λ i. take (long i) (is i)) ∙ take-append_seam (reverse before) pushed in
      let high : drop below row ≡ pushed = (λ i. drop (long i) (is i)) ∙ drop-append_seam (reverse before) pushed in
      (λ i. reverse (low i ++ reverse (high i)))
      ∙ (reverse-append (reverse before) (reverse pushed) ∙ (λ i. reverse-twice pushed i ++ reverse-twice before i))

  -- what is put in two parts

  pub defers_none : (v : StackItems X) → Defers v [] v
  defers_none v h = (h, refl)

  pub defers_two : (u v w : StackItems X) (xs ys : List X) → Defers u xs v → Defers v ys w → Defers u (xs ++ ys) w
  defers_two u v w xs ys p q h =
      let second = q h in
      let first = p second.0 in (
        first.0,
        second.1
            ∙ (ap (λ (zs : List X). reverse ys ++ zs) first.1
            ∙ (sym (append_assoc (reverse ys) (reverse xs) u.items) ∙ ap (λ (zs : List X). zs ++ u.items) (sym (reverse-append xs ys)))),
      )
