-- The parent of a node is what the kept table says, and the ancestors of a node are its parent and the ancestors of that one.
use Rattle.std.proofs.Common.{◌≡◌, ℕ, zero, suc, ◌+◌, ◌-◌, ◌<◌, ◌≤◌, Bool, true, false, cond, List, [], ◌∷◌, ◌++◌, Option, None, inl, inr, refl, ap, sym, ◌∙◌, subst, arith, length, map, get_or, Contains}
use Rattle.std.specs.Prelude.{Some, find, nat_lt, option_map}
use Rattle.std.specs.List.{list_any, enumerate_from}
use Rattle.std.proofs.lemmas.Bool.{true≢false, cases_Bool, eqb-true, eq-eqb, lt-ltb, le-ltb}
use Rattle.std.proofs.lemmas.List.Elements.{Contains-append_left, Contains-append_right}
use Rattle.std.proofs.lemmas.List.Folds.{list_any_at}
use Rattle.std.proofs.lemmas.Map.Views.{Contains-from_any}
use Rattle.hir_forest.specs.Forest.{IsChild}
use Rattle.hir_forest.specs.Parents.{HasParents}
use Rattle.hir_forest.proofs.ForestLemmas.{parent_in}
use Rattle.hir_node.specs.declared.node_id.NodeId.{NodeId}
use Rattle.hir_node.specs.declared.node_id.NodeId.TheVariants as node
use Rattle.hir_validate.specs.declared.sizes.Sizes.{Sizes}
use Rattle.hir_validate.specs.Sizes.{HasNode, place, node_at}
use Rattle.hir_validate.specs.Nodes.{sizes_of, Has, children_of, graph}
use Rattle.hir_validate.specs.declared.node_arenas.Nodes.{Nodes}
use Rattle.hir_validate.specs.Faults.{RootedNodes, rooted_fault}
use Rattle.hir_validate.specs.Recursion.{rank, RankDecreases}
use Rattle.hir_validate.proofs.FaultLemmas.{graph-length}
use Rattle.hir_validate.proofs.RecursionLemmas.{parent_in_range}
use Rattle.hir_validate.proofs.SoundLemmas.{child_in_graph, sound_falls, rank_bounded}
use Rattle.hir_store_core.specs.Ancestors.{is_node, all_nodes, is_child, parent, and_on, ancestors_within, ancestors}
use Rattle.hir_store_core.proofs.UnderLemmas.{node_here, child_back}
use Rattle.hir_store_core.proofs.ApartLemmas.{one_parent}

-- 1. The first that passes a test

later : {X : Type 0} (test : X → Bool) (y x : X) (ys : List X) → test x ≡ true → test y ≡ false → Contains (y ∷ ys) x → Contains ys x
later test y x ys t fails (zero, l, e) = absurd (true≢false (sym t ∙ ap test (sym e) ∙ fails))
later test y x ys t fails (suc k, l, e) = (k, omega arith, e)

pub find_only : {X : Type 0} (test : X → Bool) (xs : List X) (x : X) → Contains xs x → test x ≡ true → ((y : X) → test y ≡ true → y ≡ x) → find test xs ≡ Some x
find_only test [] x c t only = absurd (omega (arith, c.1))
find_only test (y ∷ ys) x c t only =
    elim (cases_Bool (test y)) [
      | inl holds ↦ rw holds (ap Some (only y holds))
      | inr fails ↦ rw fails (find_only test ys x (later test y x ys t fails c) t only)
    ]

pub find_nothing : {X : Type 0} (test : X → Bool) (xs : List X) → ((y : X) → test y ≡ true → ⊥) → find test xs ≡ None
find_nothing test [] none = refl
find_nothing test (y ∷ ys) none =
    elim (cases_Bool (test y)) [
      | inl holds ↦ absurd (none y holds)
      | inr fails ↦ rw fails (find_nothing test ys none)
    ]

pub find_passes : {X : Type 0} (test : X → Bool) (xs : List X) (x : X) → find test xs ≡ Some x → test x ≡ true
find_passes test [] x e = absurd (cc)
find_passes test (y ∷ ys) x e =
    elim (cases_Bool (test y)) [
      | inl holds ↦ let same : Some y ≡ Some x = rw holds at e in let is : y ≡ x = cc in subst (λ z. test z ≡ true) is holds
      | inr fails ↦ find_passes test ys x (rw fails at e)
    ]

-- 2. Nodes and their places

same_node : (n m : NodeId) → is_node n m ≡ true → n ≡ m
same_node (node.Expr n) (node.Expr m) e = ap node.Expr (eqb-true n m e)
same_node (node.Expr n) (node.Pat m) e = absurd (true≢false (sym e))
same_node (node.Expr n) (node.TypeRef m) e = absurd (true≢false (sym e))
same_node (node.Pat n) (node.Expr m) e = absurd (true≢false (sym e))
same_node (node.Pat n) (node.Pat m) e = ap node.Pat (eqb-true n m e)
same_node (node.Pat n) (node.TypeRef m) e = absurd (true≢false (sym e))
same_node (node.TypeRef n) (node.Expr m) e = absurd (true≢false (sym e))
same_node (node.TypeRef n) (node.Pat m) e = absurd (true≢false (sym e))
same_node (node.TypeRef n) (node.TypeRef m) e = ap node.TypeRef (eqb-true n m e)

itself : (n : NodeId) → is_node n n ≡ true
itself (node.Expr n) = eq-eqb n n refl
itself (node.Pat n) = eq-eqb n n refl
itself (node.TypeRef n) = eq-eqb n n refl

listed : {X : Type 0} (f : ℕ → NodeId) (n : ℕ) (xs : List X) (i j : ℕ) → j ≡ n + i → i < length xs → Contains (map (λ (x : ℕ × X). f x.0) (enumerate_from n xs)) (f j)
listed f n [] i j e h = absurd (omega arith)
listed f n (x ∷ xs) zero j e h = let is : n ≡ j = omega arith in (0, omega arith, ap f is)
listed f n (x ∷ xs) (suc i) j e h = let r = listed f (n + 1) xs i j (omega arith) (omega arith) in (suc r.0, omega (arith, r.1), r.2)

abbrev expr_nodes : Nodes → List NodeId
expr_nodes s = map (λ x. node.Expr x.0) (enumerate_from 0 s.exprs)

abbrev pat_nodes : Nodes → List NodeId
pat_nodes s = map (λ x. node.Pat x.0) (enumerate_from 0 s.pats)

abbrev type_nodes : Nodes → List NodeId
type_nodes s = map (λ x. node.TypeRef x.0) (enumerate_from 0 s.types)

node_listed : (s : Nodes) (n : NodeId) → Has s n → Contains (all_nodes s) n
node_listed s (node.Expr id) h =
    Contains-append_left (expr_nodes s ++ pat_nodes s) (type_nodes s) (node.Expr id)
    (Contains-append_left (expr_nodes s) (pat_nodes s) (node.Expr id) (listed node.Expr 0 s.exprs id id (omega arith) h))
node_listed s (node.Pat id) h =
    Contains-append_left (expr_nodes s ++ pat_nodes s) (type_nodes s) (node.Pat id)
    (Contains-append_right (expr_nodes s) (pat_nodes s) (node.Pat id) (listed node.Pat 0 s.pats id id (omega arith) h))
node_listed s (node.TypeRef id) h =
    Contains-append_right (expr_nodes s ++ pat_nodes s) (type_nodes s) (node.TypeRef id) (listed node.TypeRef 0 s.types id id (omega arith) h)

-- the node at the place of a node is that node
node_back : (z : Sizes) (m : NodeId) → HasNode z m → node_at z (place z m) ≡ m
node_back z (node.Expr id) h = rw (lt-ltb id z.exprs h) refl
node_back z (node.Pat id) h =
    let back : z.exprs + id - z.exprs ≡ id = omega arith in
    rw (le-ltb (z.exprs + id) z.exprs (omega arith), lt-ltb (z.exprs + id) (z.exprs + z.pats) (omega arith)) (ap node.Pat back)
node_back z (node.TypeRef id) h =
    let back : z.exprs + z.pats + id - (z.exprs + z.pats) ≡ id = omega arith in
    rw (le-ltb (z.exprs + z.pats + id) z.exprs (omega arith), le-ltb (z.exprs + z.pats + id) (z.exprs + z.pats) (omega arith)) (ap node.TypeRef back)

on_agree : (f g : NodeId → List NodeId) (o : Option NodeId) → ((p : NodeId) → o ≡ Some p → f p ≡ g p) → and_on f o ≡ and_on g o
on_agree f g None h = refl
on_agree f g (Some p) h = ap (λ (more : List NodeId). p ∷ more) (h p refl)

-- 3. The parent

module _ (c : RootedNodes) (sound : rooted_fault c None) where
  abbrev s : Nodes
  s = c.nodes

  abbrev z : Sizes
  z = sizes_of c.nodes

  abbrev g : List (List ℕ)
  g = graph c.nodes

  child_is : (n p : NodeId) → is_child s n p ≡ true → Contains (children_of s p) n
  child_is n p t = Contains-from_any same_node n (children_of s p) t

  is_its_child : (n p : NodeId) → Contains (children_of s p) n → is_child s n p ≡ true
  is_its_child n p k = list_any_at (is_node n) (children_of s p) k.0 n k.1 (rw k.2 (itself n))

  pub parent_is : (n p : NodeId) → Contains (children_of s p) n → parent s n ≡ Some p
  unfolding parent
  parent_is n p k =
      find_only (is_child s n) (all_nodes s) p (node_listed s p (parent_in_range s p n k)) (is_its_child n p k)
      (λ q t. one_parent c sound q p n (child_is n q t) k)

  pub no_parent : (n : NodeId) → ((p : NodeId) → Contains (children_of s p) n → ⊥) → parent s n ≡ None
  unfolding parent
  no_parent n none = find_nothing (is_child s n) (all_nodes s) (λ p t. none p (child_is n p t))

  pub parent_tells : (n p : NodeId) → parent s n ≡ Some p → Contains (children_of s p) n
  unfolding parent
  parent_tells n p e = child_is n p (find_passes (is_child s n) (all_nodes s) p e)

  -- a node that isn't there has no parent
  pub absent_has_none : (n : NodeId) → (Has s n → ⊥) → parent s n ≡ None
  absent_has_none n out = no_parent n (λ p k. out ((sound_falls c sound).in_range p (parent_in_range s p n k) n k))

  -- the parent by the table
  pub parent_told : (parents : List (Option ℕ)) → HasParents g parents → (n : NodeId) → Has s n → (o : Option ℕ) → o ≡ get_or parents (place z n) None
      → parent s n ≡ option_map (node_at z) o
  parent_told parents known n h None e =
      no_parent n (λ p k. clash (place z p) (e ∙ (known.children (place z n) (place z p)).1 (child_in_graph s p n (parent_in_range s p n k) k)))
    where
      clash : (q : ℕ) → None ≡ Some q → ⊥
      clash q x = cc
  parent_told parents known n h (Some q) e =
      let child : IsChild g q (place z n) = (known.children (place z n) q).0 (sym e) in
      let m = node_here z q (let p = parent_in g q (place z n) child in omega (arith, graph-length s)) in
      let back : node_at z q ≡ m.0 = subst (λ (r : ℕ). node_at z r ≡ m.0) m.2 (node_back z m.0 m.1) in
      let edge = child_back c sound m.0 n m.1 h (subst (λ (r : ℕ). IsChild g r (place z n)) (sym m.2) child) in
      parent_is n m.0 edge ∙ ap Some (sym back)

  -- the same in the words of the code that looks it up
  module _ (sizes : Sizes) (same : sizes ≡ z) (parents : List (Option ℕ)) (known : HasParents g parents) (n : NodeId) (i : ℕ) (at : (i ≡ place sizes n) × HasNode sizes n) where
    here : i ≡ place z n
    here = at.0 ∙ ap (λ (x : Sizes). place x n) same

    in_range : Has s n
    in_range = subst (λ (x : Sizes). HasNode x n) same at.1

    pub told_none : None ≡ get_or parents i None → parent s n ≡ None
    told_none e = parent_told parents known n in_range None (subst (λ (j : ℕ). None ≡ get_or parents j None) here e)

    pub told_some : (q : ℕ) → Some q ≡ get_or parents i None → parent s n ≡ Some (node_at sizes q)
    told_some q e =
        parent_told parents known n in_range (Some q) (subst (λ (j : ℕ). Some q ≡ get_or parents j None) here e)
        ∙ ap (λ (x : Sizes). Some (node_at x q)) (sym same)

    pub told_within : (q : ℕ) → Some q ≡ get_or parents i None → q < sizes.exprs + sizes.pats + sizes.types
    told_within q e =
        let child : IsChild g q (place z n) = (known.children (place z n) q).0 (sym (subst (λ (j : ℕ). Some q ≡ get_or parents j None) here e)) in
        let lt = parent_in g q (place z n) child in
        rw same (omega (arith, graph-length s))

  -- 4. The ancestors

  abbrev count : ℕ
  count = length s.exprs + length s.pats + length s.types

  -- the parent of a node is higher
  rises : (n p : NodeId) → parent s n ≡ Some p → rank s n < rank s p
  rises n p is = let k = parent_tells n p is in (sound_falls c sound).lower p (parent_in_range s p n k) n k

  -- as many steps as are enough give the same ancestors
  steps_agree : (d e : ℕ) (n : NodeId) → count < rank s n + d → count < rank s n + e → ancestors_within s d n ≡ ancestors_within s e n
  steps_agree zero e n v w = let b = rank_bounded s n in absurd (omega arith)
  steps_agree (suc d) zero n v w = let b = rank_bounded s n in absurd (omega arith)
  steps_agree (suc d) (suc e) n v w =
      on_agree (ancestors_within s d) (ancestors_within s e) (parent s n) (λ p is. let up = rises n p is in steps_agree d e p (omega arith) (omega arith))

  -- the ancestors of a node are its parent and the ancestors of that one
  pub ancestors_is : (n : NodeId) → ancestors s n ≡ and_on (ancestors s) (parent s n)
  unfolding ancestors
  ancestors_is n =
      on_agree (ancestors_within s count) (ancestors_within s (suc count)) (parent s n) (λ p is. let up = rises n p is in steps_agree count (suc count) p (omega arith) (omega arith))

  pub ended : (n : NodeId) → parent s n ≡ None → ancestors s n ≡ []
  ended n is = ancestors_is n ∙ ap (and_on (ancestors s)) is

  pub stepped : (n p : NodeId) → parent s n ≡ Some p → ancestors s n ≡ p ∷ ancestors s p
  stepped n p is = ancestors_is n ∙ ap (and_on (ancestors s)) is
