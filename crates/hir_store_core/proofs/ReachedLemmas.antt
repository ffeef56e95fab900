-- The list of the reached nodes: it has each of them, and once where no two entry nodes have a common descendant.
use Rattle.std.proofs.Common.{◌≡◌, ◌≢◌, ℕ, zero, suc, ◌<◌, ◌≤◌, ◌⊎◌, ◌↔◌, List, [], ◌∷◌, ◌++◌, Some, inl, inr, ⊎_elim, refl, ap, sym, ◌∙◌, subst, arith, get_or, slice_get, All, Contains}
use Rattle.std.proofs.lemmas.Bool.{cases_eq}
use Rattle.std.proofs.lemmas.Option.{slice_get-get_or}
use Rattle.std.proofs.lemmas.List.Elements.{All-append, Contains-append_cases, Contains-append_left, Contains-append_right, Contains-get_or}
use Rattle.std.proofs.lemmas.List.Kept.{AllPairs-cons}
use Rattle.std.specs.List.{flat_map, AllPairs}
use Rattle.hir_node.specs.declared.node_id.NodeId.{NodeId}
use Rattle.hir_node.specs.declared.node_id.NodeId.TheVariants as node
use Rattle.hir_validate.specs.Nodes.{Has, children_of}
use Rattle.hir_validate.specs.declared.node_arenas.Nodes.{Nodes}
use Rattle.hir_validate.specs.Recursion.{rank, RankDecreases, AgreeOn, DependsOnChildren}
use Rattle.hir_store_core.specs.Under.{Under, itself, below, AreDisjoint, IsReached, nodes_step, nodes_under, reached_nodes}
use Rattle.hir_validate.proofs.RecursionLemmas.{parent_in_range, fold_down_at}
use Rattle.hir_store_core.proofs.ApartLemmas.{contains_read}
use Rattle.hir_store_core.proofs.UnderLemmas.{under_more}

contains_cons : {X : Type 0} (x : X) (xs : List X) (y : X) → Contains (x ∷ xs) y → (x ≡ y) ⊎ Contains xs y
contains_cons x xs y (zero, h, e) = inl e
contains_cons x xs y (suc k, h, e) = inr (k, omega arith, e)

contains_behind : {X : Type 0} (x : X) (xs : List X) (y : X) → Contains xs y → Contains (x ∷ xs) y
contains_behind x xs y c = (suc c.0, omega (arith, c.1), c.2)

flat_map_has : {X Y : Type 0} (f : X → List Y) (xs : List X) (x : X) (y : Y) → Contains xs x → Contains (f x) y → Contains (flat_map f xs) y
flat_map_has f [] x y c d = absurd (omega (arith, c.1))
flat_map_has f (w ∷ xs) x y (zero, h, e) d = Contains-append_left (f w) (flat_map f xs) y (subst (λ v. Contains (f v) y) (sym e) d)
flat_map_has f (w ∷ xs) x y (suc k, h, e) d = Contains-append_right (f w) (flat_map f xs) y (flat_map_has f xs x y (k, omega arith, e) d)

flat_map_from : {X Y : Type 0} (f : X → List Y) (xs : List X) (y : Y) → Contains (flat_map f xs) y → (x : X) × Contains xs x × Contains (f x) y
flat_map_from f [] y h = absurd (omega (arith, h.1))
flat_map_from f (w ∷ xs) y h =
    ⊎_elim (λ a. (w, (0, omega arith, refl), a)) (λ b. let r = flat_map_from f xs y b in (r.0, contains_behind w xs r.0 r.1, r.2))
    (Contains-append_cases (f w) (flat_map f xs) y h)

-- each pair is right within two lists and between them
pairs_append : {X : Type 0} (R : X → X → Type 0) (xs ys : List X) → AllPairs R xs → AllPairs R ys → ((x y : X) → Contains xs x → Contains ys y → R x y) → AllPairs R (xs ++ ys)
pairs_append R [] ys p q r = q
pairs_append R (x ∷ xs) ys p q r =
    AllPairs-cons R x (xs ++ ys)
    (All-append (R x) xs ys (λ k d l. p 0 (suc k) d (omega arith) (omega arith)) (λ k d l. r x (get_or ys k d) (0, omega arith, refl) (Contains-get_or ys k d l)))
    (pairs_append R xs ys (λ i j d h l. p (suc i) (suc j) d (omega arith) (omega arith)) q (λ a b c e. r a b (contains_behind x xs a c) e))

-- lists without repetition that have no item in common are together without repetition
once_in_all : {X Y : Type 0} (f : X → List Y) (xs : List X) → ((x : X) → Contains xs x → AllPairs (λ a b. a ≢ b) (f x))
    → ((i j : ℕ) (a b : X) (y : Y) → i < j → slice_get xs i ≡ Some a → slice_get xs j ≡ Some b → Contains (f a) y → Contains (f b) y → ⊥)
    → AllPairs (λ a b. a ≢ b) (flat_map f xs)
once_in_all f [] each apart = λ i j d h l. absurd (omega arith)
once_in_all f (x ∷ xs) each apart =
    pairs_append (λ a b. a ≢ b) (f x) (flat_map f xs) (each x (0, omega arith, refl))
    (once_in_all f xs (λ y c. each y (contains_behind x xs y c)) (λ i j a b y h u v. apart (suc i) (suc j) a b y (omega arith) u v))
    (λ a b c e same.
    let k = flat_map_from f xs b e in
    apart 0 (suc k.1.0) x k.0 b (omega arith) refl (slice_get-get_or xs k.1.0 k.0 k.1.1 ∙ ap Some k.1.2) (subst (Contains (f x)) same c) k.2)

same_node : (a b : NodeId) → (a ≡ b) ⊎ (a ≡ b → ⊥)
same_node (node.Expr a) (node.Expr b) = ⊎_elim (λ e. inl (ap node.Expr e)) (λ ne. inr (λ e. ne (cc))) (cases_eq a b)
same_node (node.Expr a) (node.Pat b) = inr (λ e. absurd (cc))
same_node (node.Expr a) (node.TypeRef b) = inr (λ e. absurd (cc))
same_node (node.Pat a) (node.Expr b) = inr (λ e. absurd (cc))
same_node (node.Pat a) (node.Pat b) = ⊎_elim (λ e. inl (ap node.Pat e)) (λ ne. inr (λ e. ne (cc))) (cases_eq a b)
same_node (node.Pat a) (node.TypeRef b) = inr (λ e. absurd (cc))
same_node (node.TypeRef a) (node.Expr b) = inr (λ e. absurd (cc))
same_node (node.TypeRef a) (node.Pat b) = inr (λ e. absurd (cc))
same_node (node.TypeRef a) (node.TypeRef b) = ⊎_elim (λ e. inl (ap node.TypeRef e)) (λ ne. inr (λ e. ne (cc))) (cases_eq a b)

is_listed_or_not : (xs : List NodeId) (n : NodeId) → Contains xs n ⊎ (Contains xs n → ⊥)
is_listed_or_not [] n = inr (λ h. omega (arith, h.1))
is_listed_or_not (x ∷ xs) n =
    ⊎_elim (λ e. inl (0, omega arith, e))
    (λ ne. ⊎_elim (λ c. inl (contains_behind x xs n c)) (λ no. inr (λ h. ⊎_elim ne no (contains_cons x xs n h))) (is_listed_or_not xs n))
    (same_node x n)

children_agree : (f g : NodeId → List NodeId) (ks : List NodeId) → AgreeOn f g ks → flat_map f ks ≡ flat_map g ks
children_agree f g [] h = refl
children_agree f g (k ∷ ks) h = rw (h.0, children_agree f g ks h.1) refl

asks : (s : Nodes) → DependsOnChildren s (nodes_step s)
asks s f g n h = ap (λ rest. n ∷ rest) (children_agree f g (children_of s n) h)

-- a child of what is reached is reached
pub child_reached : (s : Nodes) (entry_nodes : List NodeId) (n k : NodeId) → IsReached s entry_nodes n → Contains (children_of s n) k → IsReached s entry_nodes k
child_reached s entry_nodes n k r c = (r.0, r.1, under_more s k n r.2 c)

module _ (s : Nodes) (fall : RankDecreases s) where
  abbrev children_nodes : NodeId → List NodeId
  children_nodes n = flat_map (nodes_under s) (children_of s n)

  pub nodes_under_unfold : (n : NodeId) → nodes_under s n ≡ n ∷ flat_map (nodes_under s) (children_of s n)
  unfolding nodes_under
  nodes_under_unfold n = fold_down_at s fall (nodes_step s) [] (asks s) n

  under_from_listed : (d : ℕ) (r n : NodeId) → rank s r < d → Contains (nodes_under s r) n → Under s n r
  under_from_listed zero r n lt h = absurd (omega arith)
  under_from_listed (suc d) r n lt h =
      ⊎_elim (λ e. subst (λ m. Under s m r) e itself)
      (λ c. let k = flat_map_from (nodes_under s) (children_of s r) n c in
      let low = fall.lower r (parent_in_range s r k.0 k.1) k.0 k.1 in
      below k.1 (under_from_listed d k.0 n (omega arith) k.2))
      (contains_cons r (children_nodes r) n (subst (λ (xs : List NodeId). Contains xs n) (nodes_under_unfold r) h))

  listed_from_under : (n : NodeId) {r : NodeId} → Under s n r → Contains (nodes_under s r) n
  listed_from_under n itself = subst (λ (xs : List NodeId). Contains xs n) (sym (nodes_under_unfold n)) (0, omega arith, refl)
  listed_from_under n (below {k} {r} d u) =
      subst (λ (xs : List NodeId). Contains xs n) (sym (nodes_under_unfold r))
      (contains_behind r (children_nodes r) n (flat_map_has (nodes_under s) (children_of s r) k n d (listed_from_under n u)))

  -- exactly the reached nodes are listed
  pub reached_is : (entry_nodes : List NodeId) (n : NodeId) → Contains (reached_nodes s entry_nodes) n ↔ IsReached s entry_nodes n
  reached_is entry_nodes n = (
    λ h. let t = flat_map_from (nodes_under s) entry_nodes n h in (t.0, t.1, under_from_listed (suc (rank s t.0)) t.0 n (omega arith) t.2),
    λ r. flat_map_has (nodes_under s) entry_nodes r.0 n r.1 (listed_from_under n r.2),
  )

  pub reached_decided : (entry_nodes : List NodeId) (n : NodeId) → IsReached s entry_nodes n ⊎ (IsReached s entry_nodes n → ⊥)
  reached_decided entry_nodes n = let same = reached_is entry_nodes n in ⊎_elim (λ c. inl (same.0 c)) (λ no. inr (λ r. no (same.1 r))) (is_listed_or_not (reached_nodes s entry_nodes) n)

  under_low : (n : NodeId) {r : NodeId} → Under s n r → rank s n ≤ rank s r
  under_low n itself = omega arith
  under_low n (below {k} {r} d u) = let a = under_low n u in let b = fall.lower r (parent_in_range s r k d) k d in omega arith

  module _ (apart : (n : NodeId) → Has s n → AreDisjoint s (children_of s n)) where
    not_below_itself : (r : NodeId) → All (λ n. r ≢ n) (children_nodes r)
    not_below_itself r i other l e =
        let n = get_or (children_nodes r) i other in
        let k = flat_map_from (nodes_under s) (children_of s r) n (Contains-get_or (children_nodes r) i other l) in
        let u = under_from_listed (suc (rank s k.0)) k.0 n (omega arith) k.2 in
        let v = under_low r (subst (λ (m : NodeId). Under s m k.0) (sym e) u) in
        let low = fall.lower r (parent_in_range s r k.0 k.1) k.0 k.1 in
        omega arith

    children_once : (r : NodeId) → ((k : NodeId) → Contains (children_of s r) k → AllPairs (λ a b. a ≢ b) (nodes_under s k)) → AllPairs (λ a b. a ≢ b) (children_nodes r)
    children_once r each =
        once_in_all (nodes_under s) (children_of s r) each (λ i j a b n h x y u v.
        apart r (parent_in_range s r a (contains_read (children_of s r) i a x)) i j a b n h x y
        (under_from_listed (suc (rank s a)) a n (omega arith) u) (under_from_listed (suc (rank s b)) b n (omega arith) v))

    once_under : (d : ℕ) (r : NodeId) → rank s r < d → AllPairs (λ a b. a ≢ b) (nodes_under s r)
    once_under zero r lt = absurd (omega arith)
    once_under (suc d) r lt =
        let rest = children_once r (λ k c. let low = fall.lower r (parent_in_range s r k c) k c in once_under d k (omega arith)) in
        subst (λ (xs : List NodeId). AllPairs (λ a b. a ≢ b) xs) (sym (nodes_under_unfold r)) (AllPairs-cons (λ a b. a ≢ b) r (children_nodes r) (not_below_itself r) rest)

    -- none is listed twice
    pub reached_once : (entry_nodes : List NodeId) → AreDisjoint s entry_nodes → AllPairs (λ a b. a ≢ b) (reached_nodes s entry_nodes)
    reached_once entry_nodes lie =
        once_in_all (nodes_under s) entry_nodes (λ t c. once_under (suc (rank s t)) t (omega arith))
        (λ i j a b n h x y u v. lie i j a b n h x y (under_from_listed (suc (rank s a)) a n (omega arith) u) (under_from_listed (suc (rank s b)) b n (omega arith) v))
