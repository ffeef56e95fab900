-- Members of lists: what is in a list that is joined, mapped or filtered; and sums over lists.
use Rattle.std.proofs.Common.{◌≡◌, ℕ, suc, zero, ◌<◌, List, [], ◌∷◌, ◌++◌, ◌+◌, map, length, refl, sym, ap, ◌∙◌, arith, Some, subst, inl}
use Rattle.std.proofs.Common.{inr, ◌⊎◌, ⊎_elim, Bool, true, false, cond, Contains}
use Rattle.std.proofs.lemmas.List.Sums.{sum_by-append, sum_by-cons}
use Rattle.std.specs.List.{flat_map, filter, slice_get, slice_index_or, sum_by}
use Rattle.hir_node.specs.declared.node_id.NodeId.{NodeId}
use Rattle.hir_validate.specs.Recursion.{AgreeOn}

abbrev pub In : {X : Type 0} → X → List X → Type 0
In x [] = ⊥
In x (y ∷ ys) = (y ≡ x) ⊎ In x ys

pub in_contains : {X : Type 0} (xs : List X) (x : X) → Contains xs x → In x xs
in_contains [] x c = absurd (omega (arith, c.1))
in_contains (y ∷ xs) x c = at (in_contains xs x) c.0 c.1 c.2 where
  at : (Contains xs x → In x xs) → (k : ℕ) → k < length (y ∷ xs) → slice_index_or (y ∷ xs) k x ≡ x → (y ≡ x) ⊎ In x xs
  at again zero l e = inl e
  at again (suc k) l e = inr (again (k, omega (arith, l), e))

pub contains_in : {X : Type 0} (xs : List X) (x : X) → In x xs → Contains xs x
contains_in [] x h = absurd h
contains_in (y ∷ xs) x h = ⊎_elim (λ e. (0, omega arith, e)) (λ r. let c = contains_in xs x r in (suc c.0, omega (arith, c.1), c.2)) h

pub in_left : {X : Type 0} (x : X) (xs ys : List X) → In x xs → In x (xs ++ ys)
in_left x [] ys h = absurd h
in_left x (y ∷ xs) ys h = ⊎_elim (λ e. inl e) (λ r. inr (in_left x xs ys r)) h

pub in_right : {X : Type 0} (x : X) (xs ys : List X) → In x ys → In x (xs ++ ys)
in_right x [] ys h = h
in_right x (y ∷ xs) ys h = inr (in_right x xs ys h)

pub in_append : {X : Type 0} (x : X) (xs ys : List X) → In x (xs ++ ys) → In x xs ⊎ In x ys
in_append x [] ys h = inr h
in_append x (y ∷ xs) ys h = ⊎_elim (λ e. inl (inl e)) (λ r. ⊎_elim (λ a. inl (inr a)) (λ b. inr b) (in_append x xs ys r)) h

pub in_flat_map : {X Y : Type 0} (f : X → List Y) (x : X) (y : Y) (xs : List X) → In x xs → In y (f x) → In y (flat_map f xs)
in_flat_map f x y [] h i = absurd h
in_flat_map f x y (z ∷ xs) h i =
    ⊎_elim (λ e. in_left y (f z) (flat_map f xs) (subst (λ w. In y (f w)) (sym e) i))
    (λ r. in_right y (f z) (flat_map f xs) (in_flat_map f x y xs r i)) h

pub flat_map_in : {X Y : Type 0} (f : X → List Y) (y : Y) (xs : List X) → In y (flat_map f xs) → (x : X) × In x xs × In y (f x)
flat_map_in f y [] h = absurd h
flat_map_in f y (z ∷ xs) h =
    ⊎_elim (λ a. (z, inl refl, a)) (λ b. let r = flat_map_in f y xs b in (r.0, inr r.1, r.2))
    (in_append y (f z) (flat_map f xs) h)

pub get_in : {X : Type 0} (xs : List X) (x : X) → In x xs → (k : ℕ) × (slice_get xs k ≡ Some x)
get_in [] x h = absurd h
get_in (y ∷ xs) x h = ⊎_elim (λ e. (0, ap Some e)) (λ r. let i = get_in xs x r in (suc i.0, i.1)) h

pub in_map : {X Y : Type 0} (f : X → Y) (y : Y) (xs : List X) → In y (map f xs) → (x : X) × In x xs × (f x ≡ y)
in_map f y [] h = absurd h
in_map f y (x ∷ xs) h = ⊎_elim (λ e. (x, inl refl, e)) (λ r. let i = in_map f y xs r in (i.0, inr i.1, i.2)) h

pub map_in : {X Y : Type 0} (f : X → Y) (x : X) (xs : List X) → In x xs → In (f x) (map f xs)
map_in f x [] h = absurd h
map_in f x (y ∷ xs) h = ⊎_elim (λ e. inl (ap f e)) (λ r. inr (map_in f x xs r)) h

in_kept : {X : Type 0} (test : X → Bool) (x y : X) (ys : List X) (b : Bool) → test y ≡ b → (y ≡ x) ⊎ In x ys → test x
    ≡ true → In x (cond b (y ∷ ys) ys)
in_kept test x y ys true e h t = h
in_kept test x y ys false e h t = ⊎_elim (λ q. absurd (let r : test y ≡ true = ap test q ∙ t in cc)) (λ r. r) h

pub in_filter : {X : Type 0} (test : X → Bool) (x : X) (xs : List X) → In x xs → test x ≡ true → In x (filter test xs)
in_filter test x [] h t = absurd h
in_filter test x (y ∷ xs) h t =
    in_kept test x y (filter test xs) (test y) refl (⊎_elim (λ e. inl e) (λ r. inr (in_filter test x xs r t)) h) t

kept_in : {X : Type 0} (test : X → Bool) (x y : X) (ys : List X) (b : Bool) → test y ≡ b → In x (cond b (y ∷ ys) ys) →
    ((y ≡ x) × (test x ≡ true)) ⊎ In x ys
kept_in test x y ys true t h = ⊎_elim (λ e. inl (e, ap test (sym e) ∙ t)) (λ r. inr r) h
kept_in test x y ys false t h = inr h

pub filter_in : {X : Type 0} (test : X → Bool) (x : X) (xs : List X) → In x (filter test xs) → In x xs × (test x ≡ true)
filter_in test x [] h = absurd h
filter_in test x (y ∷ xs) h =
    ⊎_elim (λ e. (inl e.0, e.1)) (λ r. let i = filter_in test x xs r in (inr i.0, i.1)) (kept_in test x y (filter test xs) (test y) refl h)

-- what agrees on some nodes does so on each
pub agree_in : {A : Type 0} (f g : NodeId → A) (xs : List NodeId) → AgreeOn f g xs → (x : NodeId) → In x xs → f x ≡ g x
agree_in f g [] h x i = absurd i
agree_in f g (y ∷ xs) h x i = ⊎_elim (λ e. subst (λ z. f z ≡ g z) e h.0) (λ r. agree_in f g xs h.1 x r) i

-- Sums over lists

pub sum_flat : {X Y : Type 0} (f : Y → ℕ) (g : X → List Y) (xs : List X) → sum_by f (flat_map g xs) ≡ sum_by (λ x. sum_by f (g x)) xs
sum_flat f g [] = refl
sum_flat f g (x ∷ xs) = omega (arith, sum_by-append f (g x) (flat_map g xs), sum_flat f g xs, sum_by-cons (λ y. sum_by f (g y)) x xs)

pub sum_same : {X : Type 0} (f g : X → ℕ) (xs : List X) → ((x : X) → In x xs → f x ≡ g x) → sum_by f xs ≡ sum_by g xs
sum_same f g [] h = refl
sum_same f g (x ∷ xs) h = omega (arith, sum_by-cons f x xs, sum_by-cons g x xs, h x (inl refl), sum_same f g xs (λ y i. h y (inr i)))

pub sum_mapped : {X Y : Type 0} (f : Y → ℕ) (g : X → Y) (xs : List X) → sum_by f (map g xs) ≡ sum_by (λ x. f (g x)) xs
sum_mapped f g [] = refl
sum_mapped f g (x ∷ xs) = omega (arith, sum_by-cons f (g x) (map g xs), sum_by-cons (λ y. f (g y)) x xs, sum_mapped f g xs)

pub sum_plus : {X : Type 0} (f g : X → ℕ) (xs : List X) → sum_by (λ x. f x + g x) xs ≡ sum_by f xs + sum_by g xs
sum_plus f g [] = refl
sum_plus f g (x ∷ xs) = omega (arith, sum_by-cons f x xs, sum_by-cons g x xs, sum_by-cons (λ y. f y + g y) x xs, sum_plus f g xs)

pub sum_none : {X : Type 0} (f : X → ℕ) (xs : List X) → ((x : X) → f x ≡ 0) → sum_by f xs ≡ 0
sum_none f [] h = refl
sum_none f (x ∷ xs) h = let a = sum_by-cons f x xs in let b = h x in let r = sum_none f xs h in omega (arith, a, b, r)

pub sum_ones : {X : Type 0} (f : X → ℕ) (xs : List X) → ((x : X) → In x xs → f x ≡ 1) → sum_by f xs ≡ length xs
sum_ones f [] h = refl
sum_ones f (x ∷ xs) h = omega (arith, sum_by-cons f x xs, h x (inl refl), sum_ones f xs (λ y i. h y (inr i)))
