-- Lists that are gone through, and separators.
use Rattle.std.proofs.Common.{◌≡◌, ℕ, ◌+◌, ◌-◌, ◌<◌, ◌≤◌, Bool, true, false, List, [], ◌∷◌, ◌++◌, length, map, take, drop, get_or}
use Rattle.std.proofs.Common.{arith, refl, sym, ap, ap₂, ◌∙◌, append_assoc, append-nil, add-one, drop-cons, flat_map, rules}
use Rattle.std.proofs.lemmas.List.{take_all, drop_all}
use Rattle.hir_pretty_docs.specs.Prelude.{Doc, when, join, following}

-- 1. The next member of a list

pub drop_item : {X : Type 0} (xs : List X) (i : ℕ) (x : X) → i < length xs → x ≡ get_or xs i x → drop i xs ≡ x ∷ drop (i + 1) xs
drop_item xs i x h e = drop-cons xs i x h ∙ ap₂ (λ a rest. a ∷ rest) (sym e) (ap (λ j. drop j xs) (sym (add-one i)))

-- a list by its first and the others
pub parts : {X : Type 0} (l : List X) (x : X) → 1 ≤ length l → x ≡ get_or l 0 x → l ≡ x ∷ take (length l - 1) (drop 1 l)
parts [] x h e = absurd (omega arith)
parts (y ∷ ys) x h e = ap₂ (λ a b. a ∷ b) (sym e) (sym (take_all (length (y ∷ ys) - 1) ys (omega arith)))

-- 2. Members after separators

pub following_step : {X : Type 0} (sep : List Doc) (f : X → List Doc) (after : Bool) (xs : List X) (i : ℕ) (x : X) → i < length xs → x ≡ get_or xs i x
    → (when after sep ++ f x) ++ following sep true (map f (drop (i + 1) xs)) ≡ following sep after (map f (drop i xs))
following_step sep f after xs i x h e = sym (ap (λ ys. following sep after (map f ys)) (drop_item xs i x h e))

pub following_ends : {X : Type 0} (sep : List Doc) (f : X → List Doc) (after : Bool) (xs : List X) (i : ℕ) → length xs ≤ i → [] ≡ following sep after (map f (drop i xs))
following_ends sep f after xs i h = sym (ap (λ ys. following sep after (map f ys)) (drop_all i xs h))

following_is : (sep x : List Doc) (ys : List (List Doc)) → x ++ following sep true ys ≡ join sep (x ∷ ys)
following_is sep x [] = append-nil x
following_is sep x (y ∷ ys) = search (rules, append_assoc, following_is sep y ys)

pub following_joined : (sep : List Doc) (xs : List (List Doc)) → following sep false xs ≡ join sep xs
following_joined sep [] = refl
following_joined sep (x ∷ xs) = following_is sep x xs

-- whether a list has members
abbrev pub is_cons : {X : Type 0} → List X → Bool
is_cons [] = false
is_cons (x ∷ xs) = true

true_after : (sep : List Doc) (xs ys : List (List Doc)) → following sep true xs ++ following sep true ys ≡ following sep true (xs ++ ys)
true_after sep [] ys = refl
true_after sep (x ∷ xs) ys = append_assoc (sep ++ x) (following sep true xs) (following sep true ys) ∙ ap (λ zs. (sep ++ x) ++ zs) (true_after sep xs ys)

pub following_append : (sep : List Doc) (xs ys : List (List Doc)) → join sep xs ++ following sep (is_cons xs) ys ≡ join sep (xs ++ ys)
following_append sep [] ys = following_joined sep ys
following_append sep (x ∷ xs) ys =
    ap (λ zs. zs ++ following sep true ys) (sym (following_is sep x xs)) ∙ append_assoc x (following sep true xs) (following sep true ys)
    ∙ ap (λ zs. x ++ zs) (true_after sep xs ys) ∙ following_is sep x (xs ++ ys)

-- 3. Members with something after each

pub each_step : {X : Type 0} (f : X → List Doc) (xs : List X) (i : ℕ) (x : X) → i < length xs → x ≡ get_or xs i x
    → f x ++ flat_map f (drop (i + 1) xs) ≡ flat_map f (drop i xs)
each_step f xs i x h e = sym (ap (flat_map f) (drop_item xs i x h e))

pub each_ends : {X : Type 0} (f : X → List Doc) (xs : List X) (i : ℕ) → length xs ≤ i → [] ≡ flat_map f (drop i xs)
each_ends f xs i h = sym (ap (flat_map f) (drop_all i xs h))
