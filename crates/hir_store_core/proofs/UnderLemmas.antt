-- Going down from child to child and climbing from child to parent lead between the same nodes.
use Rattle.std.proofs.Common.{◌≡◌, ℕ, zero, suc, ◌+◌, ◌-◌, ◌<◌, ◌≤◌, ◌⊎◌, ◌↔◌, Bool, true, List, [], Option, None, inl, inr, ⊎_elim, refl, ap, sym, ◌∙◌, subst, arith, length, map, get_or, set, Contains}
use Rattle.std.specs.Prelude.{IsTrue}
use Rattle.std.proofs.lemmas.Bool.{cases_lt}
use Rattle.std.proofs.lemmas.List.{length-map, get_or-map}
use Rattle.std.proofs.lemmas.List.Elements.{Contains-get_or}
use Rattle.hir_forest.specs.Forest.{IsChild, Climbs, HasOneParent, IsForest, Marks, LiesUnderMarked}
use Rattle.hir_forest.specs.Height.{height}
use Rattle.hir_forest.proofs.ForestLemmas.{parent_in}
use Rattle.hir_forest.proofs.HeightLemmas.{height_falls}
use Rattle.hir_forest.proofs.MarkLemmas.{Marks-set, Marks-kept, Marks-here, marks_in}
use Rattle.hir_node.specs.declared.node_id.NodeId.{NodeId}
use Rattle.hir_node.specs.declared.node_id.NodeId.TheVariants as node
use Rattle.hir_validate.specs.declared.sizes.Sizes.{Sizes}
use Rattle.hir_validate.specs.Sizes.{HasNode, place}
use Rattle.hir_forest.specs.Parents.{HasParent, HasParents}
use Rattle.hir_validate.specs.Nodes.{sizes_of, Has, children_of, graph}
use Rattle.hir_validate.specs.declared.node_arenas.Nodes.{Nodes}
use Rattle.hir_validate.specs.Faults.{RootedNodes, rooted_fault}
use Rattle.hir_validate.specs.Recursion.{RankDecreases}
use Rattle.hir_store_core.specs.Under.{Under, itself, below, LiesUnderOther}
use Rattle.hir_store_core.specs.NodeSets.{MarkedNodes, Gains, NoChildIn}
use Rattle.hir_validate.proofs.FaultLemmas.{accepted_forest, graph-length}
use Rattle.hir_validate.proofs.SoundLemmas.{place_within, row_at_place, child_in_graph, sound_falls}

-- no two nodes have the same number
pub same_place : (z : Sizes) (n m : NodeId) → HasNode z n → HasNode z m → place z n ≡ place z m → n ≡ m
same_place z (node.Expr a) (node.Expr b) h k e = ap node.Expr e
same_place z (node.Expr a) (node.Pat b) h k e = absurd (omega arith)
same_place z (node.Expr a) (node.TypeRef b) h k e = absurd (omega arith)
same_place z (node.Pat a) (node.Expr b) h k e = absurd (omega arith)
same_place z (node.Pat a) (node.Pat b) h k e = let same : a ≡ b = omega arith in ap node.Pat same
same_place z (node.Pat a) (node.TypeRef b) h k e = absurd (omega arith)
same_place z (node.TypeRef a) (node.Expr b) h k e = absurd (omega arith)
same_place z (node.TypeRef a) (node.Pat b) h k e = absurd (omega arith)
same_place z (node.TypeRef a) (node.TypeRef b) h k e = let same : a ≡ b = omega arith in ap node.TypeRef same

-- each number is that of a node
pub node_here : (z : Sizes) (q : ℕ) → q < z.exprs + z.pats + z.types → (m : NodeId) × HasNode z m × (place z m ≡ q)
node_here z q h =
    elim (cases_lt q z.exprs) [
      | inl l ↦ (node.Expr q, l, refl)
      | inr l ↦ elim (cases_lt q (z.exprs + z.pats)) [
        | inl m ↦ (node.Pat (q - z.exprs), omega arith, omega arith)
        | inr m ↦ (node.TypeRef (q - (z.exprs + z.pats)), omega arith, omega arith)
      ]
    ]

-- one node more
pub gains : (old : MarkedNodes) (n : NodeId) (at : ℕ) → at ≡ place old.sizes n → HasNode old.sizes n → length old.marks ≡ old.sizes.exprs + old.sizes.pats + old.sizes.types
    → Gains old n record old { marks = set old.marks at true }
gains old n at is h len = record {
  sizes = refl;
  members = λ m k. (
    λ i. ⊎_elim inl (λ e. inr (same_place old.sizes m n k h (sym e ∙ is))) (Marks-set old.marks at (place old.sizes m) within i),
    λ i. ⊎_elim (Marks-kept old.marks at (place old.sizes m) within) (λ e. subst (λ (x : NodeId). Marks (set old.marks at true) (place old.sizes x)) (sym e) (subst (Marks (set old.marks at true)) is (Marks-here old.marks at within))) i,
  );
}
  where
    within : at < length old.marks
    within = let w = place_within old.sizes n h in omega arith

-- one step more at the upper end
climbs_more : (g : List (List ℕ)) (k c p q : ℕ) → Climbs g k c p → IsChild g q p → Climbs g (suc k) c q
climbs_more g zero c p q e child = (q, subst (IsChild g q) (sym e) child, refl)
climbs_more g (suc k) c p q x child = (x.0, x.1, climbs_more g k x.0 p q x.2 child)

-- of two ways up from one node, one goes on where the other ends
climbs_meet : (g : List (List ℕ)) → HasOneParent g → (i j c a b : ℕ) → Climbs g i c a → Climbs g j c b → ((k : ℕ) × Climbs g k a b) ⊎ ((k : ℕ) × Climbs g k b a)
climbs_meet g one zero j c a b x y = inl (j, subst (λ (n : ℕ). Climbs g j n b) x y)
climbs_meet g one (suc i) zero c a b x y = inr (suc i, subst (λ (n : ℕ). Climbs g (suc i) n a) y x)
climbs_meet g one (suc i) (suc j) c a b x y =
    let e = one y.0 x.0 c y.1 x.1 in
    climbs_meet g one i j x.0 a b x.2 (subst (λ (n : ℕ). Climbs g j n b) e y.2)

-- each step up is higher
pub climb_rises : (g : List (List ℕ)) → IsForest g → (k c p : ℕ) → Climbs g k c p → height g c + k ≤ height g p
climb_rises g f zero c p x = let e = ap (height g) x in omega arith
climb_rises g f (suc k) c p x = let l = height_falls g f x.0 c x.1 in let m = climb_rises g f k x.0 p x.2 in omega arith

-- one step more at the lower end
pub under_more : (s : Nodes) (n k : NodeId) {r : NodeId} → Under s k r → Contains (children_of s k) n → Under s n r
under_more s n k itself c = below c itself
under_more s n k (below d u) c = below d (under_more s n k u c)

-- the nodes that an edge of the graph leads between
edge_told : (s : Nodes) (p c : ℕ) → IsChild (graph s) p c → (m n : NodeId) × Has s m × Contains (children_of s m) n × (place (sizes_of s) n ≡ c)
edge_told s p c child =
    let lt = parent_in (graph s) p c child in
    let m = node_here (sizes_of s) p (omega (arith, graph-length s)) in
    let row : get_or (graph s) p [] ≡ map (place (sizes_of s)) (children_of s m.0) =
    subst (λ (q : ℕ). get_or (graph s) q [] ≡ map (place (sizes_of s)) (children_of s m.0)) m.2 (row_at_place s m.0 m.1) in
    let k : Contains (map (place (sizes_of s)) (children_of s m.0)) c = subst (λ (r : List ℕ). Contains r c) row child in
    let lk : k.0 < length (children_of s m.0) = omega (arith, k.1, length-map (children_of s m.0) (place (sizes_of s))) in
    let n : NodeId = get_or (children_of s m.0) k.0 m.0 in
    let is : get_or (map (place (sizes_of s)) (children_of s m.0)) k.0 c ≡ place (sizes_of s) n = get_or-map (place (sizes_of s)) (children_of s m.0) k.0 m.0 c lk in
    let at : place (sizes_of s) n ≡ c = subst (λ (q : ℕ). q ≡ c) is k.2 in
    (m.0, n, m.1, Contains-get_or (children_of s m.0) k.0 m.0 lk, at)

-- no marked place has a parent exactly where no place of a child has a mark
no_child_right : (s : Nodes) (marks : List Bool) (parents : List (Option ℕ)) → HasParents (graph s) parents
    → ((c p : ℕ) → Marks marks c → HasParent parents c p → ⊥) ↔ ((m n : NodeId) → Has s m → Contains (children_of s m) n → Marks marks (place (sizes_of s) n) → ⊥)
no_child_right s marks parents known = (
  λ none m n h k i. none (place (sizes_of s) n) (place (sizes_of s) m) i ((known.children (place (sizes_of s) n) (place (sizes_of s) m)).1 (child_in_graph s m n h k)),
  λ no c p i has. let e = edge_told s p c ((known.children c p).0 has) in no e.0 e.1 e.2 e.3 (subst (Marks marks) (sym e.4) i),
)

-- the result of the test
pub no_child_told : (s : Nodes) (set : MarkedNodes) (marks : List Bool) (parents : List (Option ℕ)) (none : Bool) → marks ≡ set.marks → set.sizes ≡ sizes_of s → HasParents (graph s) parents
    → IsTrue none ↔ ((c p : ℕ) → Marks marks c → HasParent parents c p → ⊥) → IsTrue none ↔ NoChildIn s set
no_child_told s set marks parents none same sizes known is =
    let right : ((c p : ℕ) → Marks marks c → HasParent parents c p → ⊥) ↔ NoChildIn s set = rw (same, sizes) (no_child_right s set.marks parents known) in
    (λ t. right.0 (is.0 t), λ no. is.1 (right.1 no))

module _ (c : RootedNodes) (sound : rooted_fault c None) where
  abbrev s : Nodes
  s = c.nodes

  abbrev z : Sizes
  z = sizes_of c.nodes

  abbrev g : List (List ℕ)
  g = graph c.nodes

  falls : RankDecreases s
  falls = sound_falls c sound

  -- what is under a node exists
  pub under_in_range : (n : NodeId) {r : NodeId} → Under s n r → Has s r → Has s n
  under_in_range n itself h = h
  under_in_range n (below {k} {r} d u) h = under_in_range n u (falls.in_range r h k d)

  pub child_back : (m n : NodeId) → Has s m → Has s n → IsChild g (place z m) (place z n) → Contains (children_of s m) n
  child_back m n h k child =
      let row = rw (row_at_place s m h) at child in
      let lt : row.0 < length (children_of s m) = omega (arith, row.1, length-map (children_of s m) (place z)) in
      let in_range = falls.in_range m h (get_or (children_of s m) row.0 n) (Contains-get_or (children_of s m) row.0 n lt) in
      (row.0, lt, same_place z (get_or (children_of s m) row.0 n) n in_range k (sym (get_or-map (place z) (children_of s m) row.0 n (place z n) lt) ∙ row.2))

  pub climb_from_under : (n : NodeId) {r : NodeId} → Under s n r → Has s r → (k : ℕ) × Climbs g k (place z n) (place z r)
  climb_from_under n itself h = (zero, refl)
  climb_from_under n (below {k} {r} d u) h =
      let up = climb_from_under n u (falls.in_range r h k d) in
      (suc up.0, climbs_more g up.0 (place z n) (place z k) (place z r) up.1 (child_in_graph s r k h d))

  under_from_climb : (k : ℕ) (n r : NodeId) → Has s n → Has s r → Climbs g k (place z n) (place z r) → Under s n r
  under_from_climb zero n r h l x = subst (Under s n) (same_place z n r h l x) itself
  under_from_climb (suc k) n r h l x =
      let m = node_here z x.0 (let p = parent_in g x.0 (place z n) x.1 in omega (arith, graph-length s)) in
      let child = subst (λ (q : ℕ). IsChild g q (place z n)) (sym m.2) x.1 in
      let rest = subst (λ (q : ℕ). Climbs g k q (place z r)) (sym m.2) x.2 in
      under_more s n m.0 (under_from_climb k m.0 r m.1 l rest) (child_back m.0 n m.1 h child)

  -- where a node is under two, one of the two is under the other
  pub under_two : (n a b : NodeId) → Has s a → Has s b → Under s n a → Under s n b → Under s a b ⊎ Under s b a
  under_two n a b h k u v =
      let x = climb_from_under n u h in
      let y = climb_from_under n v k in
      ⊎_elim (λ m. inl (under_from_climb m.0 a b h k m.1)) (λ m. inr (under_from_climb m.0 b a k h m.1))
      (climbs_meet g (accepted_forest c sound).one_parent x.0 y.0 (place z n) (place z a) (place z b) x.1 y.1)

  -- the table by numbers tells what is a descendant of another node
  pub table_right : (marks : List Bool) → length marks ≡ length g → (n : NodeId) → Has s n → LiesUnderMarked g marks (place z n) ↔ LiesUnderOther s (λ r. Marks marks (place z r)) n
  table_right marks len n h = (
    λ x.
        let m = node_here z x.0 (let i = marks_in marks x.0 x.1 in omega (arith, graph-length s)) in
        let way = subst (Climbs g (suc x.2.0) (place z n)) (sym m.2) x.2.1 in
        (m.0, m.1, subst (Marks marks) (sym m.2) x.1, apart m.0 x.2.0 way, under_from_climb (suc x.2.0) n m.0 h m.1 way),
    λ x. let way = climb_from_under n x.4 x.1 in (place z x.0, x.2, proper x.0 x.1 x.3 way.0 way.1),
  )
    where
      apart : (r : NodeId) (k : ℕ) → Climbs g (suc k) (place z n) (place z r) → n ≡ r → ⊥
      apart r k x e = let high = climb_rises g (accepted_forest c sound) (suc k) (place z n) (place z r) x in let same = ap (λ m. height g (place z m)) e in omega arith

      proper : (r : NodeId) → Has s r → (n ≡ r → ⊥) → (k : ℕ) → Climbs g k (place z n) (place z r) → (j : ℕ) × Climbs g (suc j) (place z n) (place z r)
      proper r k ne zero e = absurd (ne (same_place z n r h k e))
      proper r k ne (suc j) x = (j, x)

  pub found_right : (marks found : List Bool) → length marks ≡ length g
      → ((m : ℕ) → m < length g → Marks found m ↔ LiesUnderMarked g marks m)
      → (n : NodeId) → Has s n → Marks found (place z n) ↔ LiesUnderOther s (λ r. Marks marks (place z r)) n
  found_right marks found len under n h =
      let t = table_right marks len n h in
      let w = place_within z n h in
      let u = under (place z n) (omega (arith, graph-length s)) in
      (λ m. t.0 (u.0 m), λ l. u.1 (t.1 l))
