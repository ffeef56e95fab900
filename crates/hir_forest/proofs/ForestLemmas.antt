-- Children, children and parents.
use Rattle.std.proofs.Common.{◌≡◌, ℕ, zero, suc, ◌+◌, ◌<◌, List, [], ◌∷◌, ◌++◌, length, get_or, take, inl, inr, ⊎_elim, refl, ap, sym, ◌∙◌, subst, arith, Contains}
use Rattle.std.proofs.lemmas.List.{get_or_past, get_or_append_left, get_or-append-add, get_or-take, length-append, length-take-le, get_or_default}
use Rattle.std.proofs.lemmas.List.Elements.{Contains-append_cases, Contains-append_left, Contains-append_right}
use Rattle.std.proofs.lemmas.Bool.{cases_lt}
use Rattle.std.specs.List.{concat}
use Rattle.hir_forest.specs.Forest.{IsChild, HasOneParent}

contains_none : (c : ℕ) → Contains [] c → ⊥
contains_none c h = omega (arith, h.1)

-- only a node has children
pub parent_in : (g : List (List ℕ)) (p c : ℕ) → IsChild g p c → p < length g
parent_in g p c k =
    elim (cases_lt p (length g)) [
      | inl h ↦ h
      | inr h ↦ absurd (contains_none c (subst (λ (row : List ℕ). Contains row c) (get_or_past g p [] h) k))
    ]

pub parent_of_child : (g : List (List ℕ)) (c : ℕ) → Contains (concat g) c → (p : ℕ) × IsChild g p c
parent_of_child [] c h = absurd (contains_none c h)
parent_of_child (row ∷ g) c h =
    ⊎_elim (λ a. (zero, a)) (λ a. let k = parent_of_child g c a in (suc k.0, k.1)) (Contains-append_cases row (concat g) c h)

pub child_of_parent : (g : List (List ℕ)) (p c : ℕ) → IsChild g p c → Contains (concat g) c
child_of_parent [] p c k = k
child_of_parent (row ∷ g) zero c k = Contains-append_left row (concat g) c k
child_of_parent (row ∷ g) (suc p) c k = Contains-append_right row (concat g) c (child_of_parent g p c k)

-- no member stands twice
abbrev pub IsRepeatFree : List ℕ → Type 0
IsRepeatFree xs = (i j : ℕ) → i < j → j < length xs → get_or xs i 0 ≡ get_or xs j 0 → ⊥

pub IsRepeatFree-from_new : (xs : List ℕ) → ((e : ℕ) → e < length xs → Contains (take e xs) (get_or xs e 0) → ⊥) → IsRepeatFree xs
IsRepeatFree-from_new xs new i j h k e =
    let short : length (take j xs) ≡ j = length-take-le j xs (omega arith) in
    let here : i < length (take j xs) = omega arith in
    new j k (i, here, get_or_default (take j xs) i (get_or xs j 0) 0 here ∙ get_or-take j xs i 0 h ∙ e)

repeat_free_rest : (xs ys : List ℕ) → IsRepeatFree (xs ++ ys) → IsRepeatFree ys
repeat_free_rest xs ys r i j h k e =
    r (length xs + i) (length xs + j) (omega arith) (omega (arith, length-append xs ys)) (get_or-append-add xs ys i 0 ∙ e ∙ sym (get_or-append-add xs ys j 0))

repeat_free_parts : (xs ys : List ℕ) (c : ℕ) → IsRepeatFree (xs ++ ys) → Contains xs c → Contains ys c → ⊥
repeat_free_parts xs ys c r a b =
    let first : get_or (xs ++ ys) a.0 0 ≡ c = get_or_append_left xs ys 0 a.0 a.1 ∙ get_or_default xs a.0 0 c a.1 ∙ a.2 in
    let second : get_or (xs ++ ys) (length xs + b.0) 0 ≡ c = get_or-append-add xs ys b.0 0 ∙ get_or_default ys b.0 0 c b.1 ∙ b.2 in
    r a.0 (length xs + b.0) (omega (arith, a.1)) (omega (arith, length-append xs ys, b.1)) (first ∙ sym second)

pub one_parent : (g : List (List ℕ)) → IsRepeatFree (concat g) → HasOneParent g
one_parent [] r p q c k l = absurd (contains_none c k)
one_parent (row ∷ g) r zero zero c k l = refl
one_parent (row ∷ g) r zero (suc q) c k l = absurd (repeat_free_parts row (concat g) c r k (child_of_parent g q c l))
one_parent (row ∷ g) r (suc p) zero c k l = absurd (repeat_free_parts row (concat g) c r l (child_of_parent g p c k))
one_parent (row ∷ g) r (suc p) (suc q) c k l = ap suc (one_parent g (repeat_free_rest row (concat g) r) p q c k l)
