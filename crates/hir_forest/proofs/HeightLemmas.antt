-- No path up or down a forest is as long as there are nodes, so its heights decrease; and a graph without a fault is a forest.
use Rattle.std.proofs.Common.{◌≡◌, ℕ, zero, suc, ◌+◌, ◌<◌, ◌≤◌, ◌⊎◌, false, eqb, List, [], ◌∷◌, length, get_or, map, None, inl, inr, ⊎_elim, refl, ap, sym, ◌∙◌, subst, arith, zero-add, suc-add, All, Contains}
use Rattle.std.proofs.lemmas.Bool.{eqb-true, false_from_ne_true}
use Rattle.std.proofs.lemmas.List.Elements.{Contains-get_or, All-contains}
use Rattle.std.proofs.lemmas.Map.Keys.{IsDistinct-from_apart}
use Rattle.std.proofs.lemmas.Map.Views.{Contains-from_any}
use Rattle.std.proofs.lemmas.Map.Steps.{length-le_from_distinct_below}
use Rattle.std.specs.List.{concat}
use Rattle.hir_forest.specs.declared.roots.Ends.{Ends}
use Rattle.hir_forest.specs.declared.roots.Root.{Root}
use Rattle.hir_forest.specs.Forest.{IsChild, Climbs, IsTop, HasOneParent, IsForest}
use Rattle.hir_forest.specs.Faults.{forest_fault}
use Rattle.hir_forest.specs.Height.{largest, height_within, height}
use Rattle.hir_forest.proofs.ForestLemmas.{parent_in, one_parent, IsRepeatFree-from_new, child_of_parent}

-- two chains that end have one length
same_length : (g : List (List ℕ)) → HasOneParent g → (a b c t u : ℕ) → Climbs g a c t → IsTop g t → Climbs g b c u → IsTop g u → a ≡ b
same_length g one zero zero c t u x top y top' = refl
same_length g one zero (suc b) c t u x top y top' = absurd (top y.0 (subst (IsChild g y.0) x y.1))
same_length g one (suc a) zero c t u x top y top' = absurd (top' x.0 (subst (IsChild g x.0) y x.1))
same_length g one (suc a) (suc b) c t u x top y top' =
    let e = one y.0 x.0 c y.1 x.1 in
    ap suc (same_length g one a b x.0 t u x.2 top (subst (λ (q : ℕ). Climbs g b q u) e y.2) top')

chain : (g : List (List ℕ)) (k c t : ℕ) → Climbs g k c t → List ℕ
chain g zero c t x = c ∷ []
chain g (suc k) c t x = c ∷ chain g k x.0 t x.2

length-chain : (g : List (List ℕ)) (k c t : ℕ) (x : Climbs g k c t) → length (chain g k c t x) ≡ suc k
unfolding chain
length-chain g zero c t x = refl
length-chain g (suc k) c t x = ap suc (length-chain g k x.0 t x.2)

contains_cons : (x : ℕ) (xs : List ℕ) (y : ℕ) → Contains (x ∷ xs) y → (x ≡ y) ⊎ Contains xs y
contains_cons x xs y (zero, h, e) = inl e
contains_cons x xs y (suc k, h, e) = inr (k, omega arith, e)

-- who stands on the chain has a chain that is no longer
on_chain : (g : List (List ℕ)) (k c t : ℕ) (x : Climbs g k c t) (n : ℕ) → Contains (chain g k c t x) n → (j : ℕ) × (j ≤ k) × Climbs g j n t
unfolding chain
on_chain g zero c t x n h = ⊎_elim (λ e. (zero, omega arith, sym e ∙ x)) (λ f. absurd (omega (arith, f.1))) (contains_cons c [] n h)
on_chain g (suc k) c t x n h =
    ⊎_elim
    (λ e. (suc k, omega arith, subst (λ (y : ℕ). Climbs g (suc k) y t) e x))
    (λ f. let r = on_chain g k x.0 t x.2 n f in (r.0, omega (arith, r.1), r.2))
    (contains_cons c (chain g k x.0 t x.2) n h)

chain_within : (g : List (List ℕ)) (k c t : ℕ) (x : Climbs g k c t) → c < length g → (n : ℕ) → Contains (chain g k c t x) n → n < length g
unfolding chain
chain_within g zero c t x h n f = ⊎_elim (λ e. subst (λ (y : ℕ). y < length g) e h) (λ e. absurd (omega (arith, e.1))) (contains_cons c [] n f)
chain_within g (suc k) c t x h n f =
    ⊎_elim
    (λ e. subst (λ (y : ℕ). y < length g) e h)
    (λ e. chain_within g k x.0 t x.2 (parent_in g x.0 c x.1) n e)
    (contains_cons c (chain g k x.0 t x.2) n f)

chain_apart : (g : List (List ℕ)) → HasOneParent g → (k c t : ℕ) (x : Climbs g k c t) → IsTop g t → (i j d : ℕ) → i < j → j < length (chain g k c t x) → eqb (get_or (chain g k c t x) i d) (get_or (chain g k c t x) j d) ≡ false
unfolding chain
chain_apart g one zero c t x top i j d h l = absurd (omega arith)
chain_apart g one (suc k) c t x top i zero d h l = absurd (omega arith)
chain_apart g one (suc k) c t x top zero (suc j) d h l =
    let rest = chain g k x.0 t x.2 in
    false_from_ne_true (eqb c (get_or rest j d)) (λ e.
    let at = Contains-get_or rest j d (omega arith) in
    let on = on_chain g k x.0 t x.2 c (subst (Contains rest) (sym (eqb-true c (get_or rest j d) e)) at) in
    let len = same_length g one on.0 (suc k) c t t on.2 top x top in
    omega (arith, on.1))
chain_apart g one (suc k) c t x top (suc i) (suc j) d h l = chain_apart g one k x.0 t x.2 top i j d (omega arith) (omega arith)

pub chain_short : (g : List (List ℕ)) → HasOneParent g → (k c t : ℕ) → Climbs g k c t → IsTop g t → c < length g → k < length g
chain_short g one k c t x top h =
    let n = length-chain g k c t x in
    let m = length-le_from_distinct_below (chain g k c t x) (length g) (IsDistinct-from_apart eqb (chain g k c t x) (chain_apart g one k c t x top)) (λ q f. chain_within g k c t x h q (Contains-from_any eqb-true q (chain g k c t x) f)) in
    omega arith

pub join : (g : List (List ℕ)) (j k a b c : ℕ) → Climbs g j a b → Climbs g k b c → Climbs g (j + k) a c
join g zero k a b c x y = rw zero-add (subst (λ (n : ℕ). Climbs g k n c) (sym x) y)
join g (suc j) k a b c x y = rw suc-add (x.0, x.1, join g j k x.0 b c x.2 y)

climb_end_in : (g : List (List ℕ)) (k c p : ℕ) → Climbs g k c p → c < length g → p < length g
climb_end_in g zero c p x h = subst (λ (n : ℕ). n < length g) x h
climb_end_in g (suc k) c p x h = climb_end_in g k x.0 p x.2 (parent_in g x.0 c x.1)

-- no way up, and so no way down, has as many steps as there are nodes
pub climb_short : (g : List (List ℕ)) → IsForest g → (k c p : ℕ) → Climbs g k c p → c < length g → k < length g
climb_short g f k c p x h =
    let e = f.chains_end p (climb_end_in g k c p x h) in
    let s = chain_short g f.one_parent (k + e.0) c e.1 (join g k e.0 c p e.1 x e.2) e.3 h in
    omega arith

-- a way down, step by step from above
pub extend : (g : List (List ℕ)) (k c p q : ℕ) → Climbs g k c p → IsChild g q p → Climbs g (suc k) c q
extend g zero c p q x e = (q, subst (IsChild g q) (sym x) e, refl)
extend g (suc k) c p q x e = (x.0, x.1, extend g k x.0 p q x.2 e)

-- each way down from n has fewer steps than depth
abbrev IsShort : List (List ℕ) → ℕ → ℕ → Type 0
IsShort g depth n = (k c : ℕ) → Climbs g k c n → k < depth

short_child : (g : List (List ℕ)) (depth n k : ℕ) → IsShort g (suc depth) n → IsChild g n k → IsShort g depth k
short_child g depth n k w e j c x = let s = w (suc j) c (extend g j c k n x e) in omega arith

all_short : (g : List (List ℕ)) → IsForest g → (n : ℕ) → n < length g → IsShort g (length g) n
all_short g f n h k c x = climb_short g f k c n x (start_in g f k c n x h)
  where
    start_in : (g : List (List ℕ)) → IsForest g → (k c p : ℕ) → Climbs g k c p → p < length g → c < length g
    start_in g f zero c p x h = subst (λ (m : ℕ). m < length g) (sym x) h
    start_in g f (suc k) c p x h = f.children_within x.0 c x.1

-- functions that agree on a list's members
map_agree : (f h : ℕ → ℕ) (xs : List ℕ) → ((x : ℕ) → Contains xs x → f x ≡ h x) → map f xs ≡ map h xs
map_agree f h [] e = refl
map_agree f h (x ∷ xs) e =
    let first : f x ≡ h x = e x (0, omega arith, refl) in
    let rest : map f xs ≡ map h xs = map_agree f h xs (λ y c. e y (suc c.0, omega (arith, c.1), c.2)) in
    rw (first, rest)

-- where the ways down are short, a greater depth changes nothing
stable : (g : List (List ℕ)) (d e n : ℕ) → IsShort g d n → IsShort g e n → height_within g d n ≡ height_within g e n
stable g zero e n v w = absurd (let z = v 0 n refl in omega arith)
stable g (suc d) zero n v w = absurd (let z = w 0 n refl in omega arith)
stable g (suc d) (suc e) n v w =
    ap (λ (xs : List ℕ). suc (largest xs))
    (map_agree (height_within g d) (height_within g e) (get_or g n []) (λ k h. stable g d e k (short_child g d n k v h) (short_child g e n k w h)))

largest_of : (f : ℕ → ℕ) (xs : List ℕ) (x : ℕ) → Contains xs x → f x ≤ largest (map f xs)
largest_of f [] x c = absurd (omega (arith, c.1))
largest_of f (y ∷ xs) x c = ⊎_elim (λ e. subst (λ (z : ℕ). f z ≤ largest (map f (y ∷ xs))) e (omega arith)) (λ d. let h = largest_of f xs x d in omega arith) (contains_cons y xs x c)

falls_within : (g : List (List ℕ)) (depth p c : ℕ) → IsShort g depth p → IsChild g p c → height_within g depth c < height_within g depth p
falls_within g zero p c w k = absurd (let z = w 0 p refl in omega arith)
falls_within g (suc d) p c w k =
    let low : IsShort g d c = short_child g d p c w k in
    let same = stable g (suc d) d c (λ j a x. let z = low j a x in omega arith) low in
    let in' = largest_of (height_within g d) (get_or g p []) c k in
    rw same (omega arith)

-- a node stands higher than its children
pub height_falls : (g : List (List ℕ)) → IsForest g → (p c : ℕ) → IsChild g p c → height g c < height g p
unfolding height
height_falls g f p c k = falls_within g (length g) p c (all_short g f p (parent_in g p c k)) k

largest_at_most : (f : ℕ → ℕ) (top : ℕ) → ((x : ℕ) → f x ≤ top) → (xs : List ℕ) → largest (map f xs) ≤ top
largest_at_most f top h [] = omega arith
largest_at_most f top h (x ∷ xs) = let first = h x in let rest = largest_at_most f top h xs in omega arith

height_at_most : (g : List (List ℕ)) (depth n : ℕ) → height_within g depth n ≤ depth
height_at_most g zero n = omega arith
height_at_most g (suc depth) n = let h = largest_at_most (height_within g depth) depth (height_at_most g depth) (get_or g n []) in omega arith

-- no node is higher than there are nodes
pub height_bounded : (g : List (List ℕ)) (n : ℕ) → height g n ≤ length g
unfolding height
height_bounded g n = height_at_most g (length g) n

-- a graph without a fault is a forest
pub forest_from_none : (g : List (List ℕ)) (lengths : Ends) (roots : List Root) → All (λ c. c < length g) (concat g) → forest_fault g lengths roots None → IsForest g
unfolding forest_fault
forest_from_none g lengths roots within h = record {
  one_parent = one_parent g (IsRepeatFree-from_new (concat g) h.0);
  each_once = h.0;
  children_within = λ p c k. All-contains (λ x. x < length g) (concat g) c within (child_of_parent g p c k);
  chains_end = h.1.0;
}
