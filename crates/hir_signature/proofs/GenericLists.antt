-- Lifetimes by the way that they are bound, and the first member of a list that passes.
use Rattle.std.proofs.Common.{◌≡◌, ◌+◌, ℕ, Bool, true, false, cond, List, [], ◌∷◌, length, Option, Some, None, arith, ap, sym, ◌∙◌, refl}
use Rattle.std.specs.List.{filter, find, position, position_from, enumerate_from}
use Rattle.std.specs.Option.{option_map}
use Rattle.std.proofs.lemmas.Iterator.Adapters.{position_from-zero}
use Rattle.hir_signature.specs.Params.{is_bound, same_bound}
use Rattle.hir_signature.specs.declared.param_data.LifetimeBoundType.{LifetimeBoundType}
use Rattle.hir_signature.specs.declared.param_data.LifetimeParamData.{LifetimeParamData}
use Rattle.hir_signature.specs.declared.param_data.LifetimeBoundType.TheVariants.{EarlyBound, LateBound}
use Rattle.hir_signature.specs.Generics.{count_bound}

-- one way is one of the two
one_way : (way : LifetimeBoundType) (a b n : ℕ) → a + b ≡ n → cond (same_bound EarlyBound way) (1 + a) a + cond (same_bound LateBound way) (1 + b) b ≡ 1 + n
one_way EarlyBound a b n e = omega (arith, e)
one_way LateBound a b n e = omega (arith, e)

length_cond : {X : Type 0} (b : Bool) (x : X) (xs : List X) → length (cond b (x ∷ xs) xs) ≡ cond b (1 + length xs) (length xs)
length_cond true x xs = omega arith
length_cond false x xs = refl

-- each lifetime is bound in one of the two ways
pub early_or_late : (xs : List LifetimeParamData) → count_bound EarlyBound xs + count_bound LateBound xs ≡ length xs
early_or_late [] = refl
early_or_late (x ∷ xs) =
    let early = length_cond (is_bound EarlyBound x) x (filter (is_bound EarlyBound) xs) in
    let late = length_cond (is_bound LateBound x) x (filter (is_bound LateBound) xs) in
    let step = one_way x.bound_type _ _ _ (early_or_late xs) in
    omega (arith, early, late, step)

first_entry : {X : Type 0} (b : Bool) (n : ℕ) (x : X) (r : Option ℕ) (s : Option (ℕ × X)) → r ≡ option_map (λ e. e.0) s → cond b (Some n) r ≡ option_map (λ e. e.0) (cond b (Some (n, x)) s)
first_entry true n x r s e = refl
first_entry false n x r s e = e

-- the place of the first that passes is the number of the first entry that does
pub position_is : {X : Type 0} (p : X → Bool) (n : ℕ) (xs : List X) → position_from p n xs ≡ option_map (λ e. e.0) (find (λ e. p e.1) (enumerate_from n xs))
position_is p n [] = refl
position_is p n (x ∷ xs) = first_entry (p x) n x _ _ (position_is p (n + 1) xs)

-- where the first entry left is one that passes, its number is the place of the first member that does
pub position_of_first : {X : Type 0} (p : X → Bool) (xs : List X) (left : List (ℕ × X)) (at : ℕ) (x : X) (rest : List (ℕ × X)) → find (λ e. p e.1) left ≡ find (λ e. p e.1) (enumerate_from 0 xs) → left ≡ (at, x) ∷ rest → p x ≡ true → position p xs ≡ Some at
position_of_first p xs left at x rest same first passes =
    let here : find (λ e. p e.1) left ≡ Some (at, x) = rw first (rw passes refl) in
    (position_from-zero p xs) ∙ position_is p 0 xs ∙ ap (option_map (λ e. e.0)) (sym same ∙ here)

-- where no entry is left, no member passes
pub no_position : {X : Type 0} (p : X → Bool) (xs : List X) (left : List (ℕ × X)) → find (λ e. p e.1) left ≡ find (λ e. p e.1) (enumerate_from 0 xs) → left ≡ [] → position p xs ≡ None
no_position p xs left same none =
    let here : find (λ e. p e.1) left ≡ None = rw none refl in
    (position_from-zero p xs) ∙ position_is p 0 xs ∙ ap (option_map (λ e. e.0)) (sym same ∙ here)
