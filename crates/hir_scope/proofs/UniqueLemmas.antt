-- Each node that occurs in a context occurs in one alone, where no two entry nodes and no two children of a node
-- have a common descendant.
use Rattle.std.proofs.Common.{◌≡◌, ℕ, zero, suc, ◌<◌, ◌≤◌, List, [], ◌∷◌, map, refl, sym, ap, ◌∙◌, arith, subst, inl, inr, ◌⊎◌, ⊎_elim, rules}
use Rattle.std.proofs.Common.{Some, Contains, eqb}
use Rattle.std.proofs.lemmas.{Bool.cases_lt, Bool.Decides.eqb_tells, List.Sorted.sum_by-IsPermutation}
use Rattle.std.proofs.lemmas.{List.Sums.sum_by-cons, Option.slice_get-map}
use Rattle.std.specs.{List.slice_get, List.sum_by, Prelude.option_map}
use Rattle.hir_node.specs.declared.node_id.NodeId.{NodeId}
use Rattle.hir_validate.specs.{Recursion.rank, Recursion.RankDecreases, declared.node_arenas.Nodes.Nodes, Nodes.Has, Nodes.children_of}
use Rattle.hir_store_core.specs.Under.{Under, itself, below, AreDisjoint}
use Rattle.hir_store_core.proofs.UnderLemmas.{under_more}
use Rattle.hir_scope.specs.Chains.{InContext, child_in_context, children_in_context, Occurs, entry_node, child, HasChain}
use Rattle.hir_scope.specs.{Frames.Chain, ChildContexts.ChildContext, ChildContexts.child_contexts}
use Rattle.hir_scope.proofs.{CountLemmas.one_if, ChildLemmas.children_in, ChildLemmas.child_contexts_children}
use Rattle.hir_scope.proofs.MemberLemmas.{In, in_contains, contains_in, get_in, sum_mapped}
use Rattle.hir_scope.proofs.UnderLemmas.{child_of_context, occurs_reached, occurs_in_range}
use Rattle.std.proofs.lemmas.Grind.{common_steps}

-- 1. How often a node occurs in a list

abbrev is : NodeId → NodeId → ℕ
is (NodeId.Expr a) (NodeId.Expr b) = one_if (eqb a b)
is (NodeId.Pat a) (NodeId.Pat b) = one_if (eqb a b)
is (NodeId.TypeRef a) (NodeId.TypeRef b) = one_if (eqb a b)
is _ _ = 0

same_id : (f : ℕ → NodeId) (a b : ℕ) → (one_if (eqb a b) ≡ 0) ⊎ ((one_if (eqb a b) ≡ 1) × (f a ≡ f b))
same_id f a b = ⊎_elim (λ t. inr (ap one_if t.0, ap f t.1)) (λ t. inl (ap one_if t.0)) (eqb_tells a b)

is_or_not : (n m : NodeId) → (is n m ≡ 0) ⊎ ((is n m ≡ 1) × (n ≡ m))
is_or_not (NodeId.Expr a) (NodeId.Expr b) = same_id NodeId.Expr a b
is_or_not (NodeId.Pat a) (NodeId.Pat b) = same_id NodeId.Pat a b
is_or_not (NodeId.TypeRef a) (NodeId.TypeRef b) = same_id NodeId.TypeRef a b
is_or_not _ _ = inl refl

itself_id : (a : ℕ) → one_if (eqb a a) ≡ 1
itself_id a = ⊎_elim (λ t. ap one_if t.0) (λ t. absurd (t.1 refl)) (eqb_tells a a)

is_itself : (n : NodeId) → is n n ≡ 1
is_itself (NodeId.Expr a) = itself_id a
is_itself (NodeId.Pat a) = itself_id a
is_itself (NodeId.TypeRef a) = itself_id a

-- it does not occur there
absent : (m : NodeId) (xs : List NodeId) → ((j : ℕ) (b : NodeId) → slice_get xs j ≡ Some b → m ≡ b → ⊥) → sum_by (is m) xs ≡ 0
absent m [] h = refl
absent m (x ∷ xs) h =
    let a = sum_by-cons (is m) x xs in
    let r = absent m xs (λ j b e. h (suc j) b e) in
    ⊎_elim (λ z. omega (arith, a, r, z)) (λ z. absurd (h 0 x refl z.1)) (is_or_not m x)

-- it occurs there once at most
once : (m : NodeId) (xs : List NodeId) →
    ((i j : ℕ) (a b : NodeId) → i < j → slice_get xs i ≡ Some a → slice_get xs j ≡ Some b → m ≡ a → m ≡ b → ⊥) →
    sum_by (is m) xs ≤ 1
once m [] h = omega arith
once m (x ∷ xs) h =
    let a = sum_by-cons (is m) x xs in
    ⊎_elim
    (λ z. let r = once m xs (λ i j b d l e f. h (suc i) (suc j) b d (omega (arith, l)) e f) in omega (arith, a, r, z))
    (λ z. let r = absent m xs (λ j b e. h 0 (suc j) x b (omega arith) refl e z.1) in let one = z.0 in omega (arith, a, r, one))
    (is_or_not m x)

present : (m : NodeId) (ps : List InContext) (j : ℕ) (q : InContext) → slice_get ps j ≡ Some q → m ≡ q.node →
    1 ≤ sum_by (λ (p : InContext). is m p.node) ps
present m [] j q e n = absurd cc
present m (p ∷ ps) zero q e n = grind (arith, common_steps, sum_by-cons, is_itself)
present m (p ∷ ps) (suc j) q e n = omega (arith, sum_by-cons (λ (x : InContext). is m x.node) p ps, present m ps j q e n)

-- it occurs there twice
twice : (m : NodeId) (ps : List InContext) (i j : ℕ) (p q : InContext) → i < j → slice_get ps i ≡ Some p →
    slice_get ps j ≡ Some q → m ≡ p.node → m ≡ q.node → 2 ≤ sum_by (λ (x : InContext). is m x.node) ps
twice m [] i j p q l e f n o = absurd cc
twice m (x ∷ ps) i zero p q l e f n o = absurd (omega (arith, l))
twice m (x ∷ ps) zero (suc j) p q l e f n o = grind (arith, common_steps, sum_by-cons, is_itself, present)
twice m (x ∷ ps) (suc i) (suc j) p q l e f n o = search (rules, sum_by-cons, twice m ps i j p q (omega (arith, l)) e f n o)

-- 2. Places

-- no two of these places are of one node
abbrev OneEach : List InContext → Type 0
OneEach ps = (i j : ℕ) (p q : InContext) → i < j → slice_get ps i ≡ Some p → slice_get ps j ≡ Some q → p.node ≡ q.node → ⊥

level : (i j : ℕ) → (i < j → ⊥) → (j < i → ⊥) → i ≡ j
level i j f g = ⊎_elim (λ l. absurd (f l)) (λ l. ⊎_elim (λ m. absurd (g m)) (λ m. omega (arith, l, m)) (cases_lt j i)) (cases_lt i j)

same_context : (ps : List InContext) → OneEach ps → (p q : InContext) → In p ps → In q ps → p.node ≡ q.node → p ≡ q
same_context ps one p q i j n = search (rules, get_in, level)

node_get : (ps : List InContext) (k : ℕ) (p : InContext) → slice_get ps k ≡ Some p →
    slice_get (map (λ (q : InContext). q.node) ps) k ≡ Some p.node
node_get ps k p e = slice_get-map (λ (q : InContext). q.node) ps k ∙ ap (option_map (λ (q : InContext). q.node)) e

module _ (s : Nodes) (fall : RankDecreases s)
    (parent : (n m k : NodeId) → Contains (children_of s n) k → Contains (children_of s m) k → n ≡ m)
    (apart : (n : NodeId) → Has s n → AreDisjoint s (children_of s n)) where
  lie_once : (ns : List NodeId) → AreDisjoint s ns → (m : NodeId) → sum_by (is m) ns ≤ 1
  lie_once ns h m = once m ns (λ i j a b l e f n o. h i j a b m l e f (subst (Under s m) n itself) (subst (Under s m) o itself))

  children_once : (p : InContext) → Has s p.node → OneEach (children_in_context s p)
  children_once p has i j q r l e f n =
      let ps = children_in_context s p in
      let g = sum_mapped (λ (x : InContext). is q.node x.node) (child_in_context p.scope p.const_scope) (child_contexts s p.node) in
      let u = sum_mapped (is q.node) (λ (x : ChildContext). x.child) (child_contexts s p.node) in
      let d = sum_by-IsPermutation (is q.node) (children_of s p.node) (children_in (child_contexts s p.node))
      (child_contexts_children s p.node) in
      omega (arith, twice q.node ps i j q r l e f refl n, g, u, d, lie_once (children_of s p.node) (apart p.node has) q.node)

  under_low : (n r : NodeId) → Under s n r → Has s r → rank s n ≤ rank s r
  under_low n r itself has = omega arith
  under_low n r (below {k = k} c u) has = omega (arith, fall.lower r has k c, under_low n k u (fall.in_range r has k c))

  module _ (entry_nodes : List InContext) (in_range : (p : InContext) → In p entry_nodes → Has s p.node)
      (entry_nodes_apart : AreDisjoint s (map (λ (p : InContext). p.node) entry_nodes)) where
    entry_nodes_once : OneEach entry_nodes
    entry_nodes_once i j p q l e f n =
        entry_nodes_apart i j p.node q.node p.node l (node_get entry_nodes i p e) (node_get entry_nodes j q f) itself
        (subst (Under s p.node) n itself)

    -- an entry node is no child of what occurs in a context
    top_free : (p r q : InContext) → Contains entry_nodes p → Occurs s entry_nodes r → In q (children_in_context s r) → p.node ≡ q.node → ⊥
    top_free p r q c h i n =
        let up = occurs_reached s entry_nodes r h in
        let child_c = child_of_context s r q (contains_in (children_in_context s r) q i) in
        let has = occurs_in_range s fall entry_nodes in_range r h in
        let lies = under_more s q.node r.node up.2 child_c in
        let a = get_in entry_nodes p (in_contains entry_nodes p c) in
        let b =
        get_in (map (λ (x : InContext). x.node) entry_nodes) up.0
        (in_contains (map (λ (x : InContext). x.node) entry_nodes) up.0 up.1) in
        let pa = node_get entry_nodes a.0 p a.1 in
        let own = subst (λ m. Under s m p.node) n itself in
        let e = level a.0 b.0 (λ l. entry_nodes_apart a.0 b.0 p.node up.0 q.node l pa b.1 own lies)
        (λ l. entry_nodes_apart b.0 a.0 up.0 p.node q.node l b.1 pa lies own) in
        let x : Some p.node ≡ Some up.0 = sym pa ∙ (ap (slice_get (map (λ (y : InContext). y.node) entry_nodes)) e ∙ b.1) in
        let same : p.node ≡ up.0 = cc in
        let d = under_low r.node p.node (subst (Under s r.node) (sym same) up.2) (in_range p (in_contains entry_nodes p c)) in
        omega (arith, d, fall.lower r.node has q.node child_c, ap (rank s) n)

    pub occurs_once : (p : InContext) → Occurs s entry_nodes p → (q : InContext) → Occurs s entry_nodes q → p.node ≡ q.node → p ≡ q
    occurs_once p (entry_node c) q (entry_node d) n =
        same_context entry_nodes entry_nodes_once p q (in_contains entry_nodes p c) (in_contains entry_nodes q d) n
    occurs_once p (entry_node c) q (child {parent = r} h d) n = absurd (top_free p r q c h (in_contains (children_in_context s r) q d) n)
    occurs_once p (child {parent = r} h c) q (entry_node d) n =
        absurd (top_free q r p d h (in_contains (children_in_context s r) p c) (sym n))
    occurs_once p (child {parent = r} h c) q (child {parent = t} k d) n =
        let a = child_of_context s r p c in
        let b = child_of_context s t q d in
        let one = occurs_once r h t k (parent r.node t.node p.node a (subst (Contains (children_of s t.node)) (sym n) b)) in
        let d' = subst (λ (x : InContext). In q (children_in_context s x)) (sym one) (in_contains (children_in_context s t) q d) in
        same_context (children_in_context s r) (children_once r (occurs_in_range s fall entry_nodes in_range r h)) p q
        (in_contains (children_in_context s r) p c) d' n

    -- so an expression has one chain
    pub one_chain : (expr : ℕ) (c d : Chain) → HasChain s entry_nodes expr c → HasChain s entry_nodes expr d → c ≡ d
    one_chain expr c d h k = search (rules, occurs_once)
