-- No two children of a node have a common descendant, nor have two listed roots; two nodes with a common child are
-- one.
use Rattle.std.proofs.Common.{◌≡◌, ℕ, zero, suc, ◌+◌, ◌<◌, List, [], ◌∷◌, Some, None, ⊎_elim, ap, sym, ◌∙◌, subst, arith, length, map, get_or, slice_get, option_map, Contains}
use Rattle.std.proofs.lemmas.List.{length-map, get_or-map, length-append, get_or_append_left, get_or-append-add}
use Rattle.std.proofs.lemmas.Option.{slice_get_within, get_or_from_slice_get, slice_get-map, slice_get-get_or}
use Rattle.std.specs.List.{concat}
use Rattle.hir_forest.specs.Forest.{Climbs, IsForest}
use Rattle.hir_forest.specs.Faults.{root_nodes}
use Rattle.hir_forest.specs.Height.{height}
use Rattle.hir_forest.proofs.ForestLemmas.{IsRepeatFree, IsRepeatFree-from_new}
use Rattle.hir_forest.proofs.HeightLemmas.{height_falls}
use Rattle.hir_node.specs.declared.node_id.NodeId.{NodeId}
use Rattle.hir_node.specs.declared.node_id.NodeId.TheVariants as node
use Rattle.hir_validate.specs.declared.sizes.Sizes.{Sizes}
use Rattle.hir_validate.specs.Sizes.{place}
use Rattle.hir_validate.specs.Nodes.{sizes_of, Has, children_of, graph}
use Rattle.hir_validate.specs.declared.node_arenas.Nodes.{Nodes}
use Rattle.hir_validate.specs.Faults.{RootedNodes, rooted_fault}
use Rattle.hir_validate.specs.Sound.{RootsStandApart}
use Rattle.hir_validate.specs.Recursion.{RankDecreases}
use Rattle.hir_validate.proofs.FaultLemmas.{accepted_forest}
use Rattle.hir_validate.proofs.SoundLemmas.{row_at_place, child_in_graph, sound_falls, roots_apart}
use Rattle.hir_validate.proofs.RecursionLemmas.{parent_in_range}
use Rattle.hir_store_core.specs.Under.{Under, AreDisjoint}
use Rattle.hir_store_core.proofs.UnderLemmas.{same_place, climb_from_under, climb_rises, under_two}

-- an item that is read is in the list
pub contains_read : {X : Type 0} (xs : List X) (i : ℕ) (x : X) → slice_get xs i ≡ Some x → Contains xs x
contains_read xs i x e = (i, slice_get_within xs i x e, get_or_from_slice_get xs i x x e)

-- where no child of any edge occurs twice, none occurs twice in the list
once_in_row : (g : List (List ℕ)) (p : ℕ) → IsRepeatFree (concat g) → IsRepeatFree (get_or g p [])
once_in_row [] p r i j h l e = absurd (omega arith)
once_in_row (row ∷ g) zero r i j h l e =
    r i j h (omega (arith, length-append row (concat g))) (get_or_append_left row (concat g) 0 i (omega arith) ∙ e ∙ sym (get_or_append_left row (concat g) 0 j l))
once_in_row (row ∷ g) (suc p) r i j h l e = once_in_row g p (λ a b m n f.
    r (length row + a) (length row + b) (omega arith) (omega (arith, length-append row (concat g))) (get_or-append-add row (concat g) a 0 ∙ f ∙ sym (get_or-append-add row (concat g) b 0))) i j h l e

module _ (c : RootedNodes) (sound : rooted_fault c None) where
  abbrev s : Nodes
  s = c.nodes

  abbrev z : Sizes
  z = sizes_of c.nodes

  abbrev g : List (List ℕ)
  g = graph c.nodes

  forest : IsForest g
  forest = accepted_forest c sound

  falls : RankDecreases s
  falls = sound_falls c sound

  -- two nodes with a common child are one
  pub one_parent : (n m k : NodeId) → Contains (children_of s n) k → Contains (children_of s m) k → n ≡ m
  one_parent n m k x y =
      let h = parent_in_range s n k x in
      let l = parent_in_range s m k y in
      same_place z n m h l (forest.one_parent (place z n) (place z m) (place z k) (child_in_graph s n k h x) (child_in_graph s m k l y))

  -- no child is listed twice
  child_once : (n k : NodeId) (i j : ℕ) → Has s n → i < j → slice_get (children_of s n) i ≡ Some k → slice_get (children_of s n) j ≡ Some k → ⊥
  child_once n k i j h lt x y = free i j lt (omega (arith, lj, length-map (children_of s n) (place z))) (at i li x ∙ sym (at j lj y))
    where
      li : i < length (children_of s n)
      li = slice_get_within (children_of s n) i k x

      lj : j < length (children_of s n)
      lj = slice_get_within (children_of s n) j k y

      free : IsRepeatFree (map (place z) (children_of s n))
      free = subst (λ (row : List ℕ). IsRepeatFree row) (row_at_place s n h) (once_in_row g (place z n) (IsRepeatFree-from_new (concat g) forest.each_once))

      at : (m : ℕ) → m < length (children_of s n) → slice_get (children_of s n) m ≡ Some k → get_or (map (place z) (children_of s n)) m 0 ≡ place z k
      at m l e = get_or-map (place z) (children_of s n) m k 0 l ∙ ap (place z) (get_or_from_slice_get (children_of s n) m k k e)

  -- a child of a node is a descendant of no other child of it
  child_not_under : (n a b : NodeId) → Has s n → Contains (children_of s n) a → Contains (children_of s n) b → Under s a b → a ≡ b
  child_not_under n a b h x y u = let way = climb_from_under c sound a u (falls.in_range n h b y) in by way.0 way.1
    where
      by : (k : ℕ) → Climbs g k (place z a) (place z b) → a ≡ b
      by zero e = same_place z a b (falls.in_range n h a x) (falls.in_range n h b y) e
      by (suc k) w =
          let same = ap (height g) (forest.one_parent (place z n) w.0 (place z a) (child_in_graph s n a h x) w.1) in
          let up = climb_rises g forest k w.0 (place z b) w.2 in
          let down = height_falls g forest (place z n) (place z b) (child_in_graph s n b h y) in
          absurd (omega arith)

  -- no two children of a node have a common descendant
  pub children_apart : (n : NodeId) → Has s n → AreDisjoint s (children_of s n)
  children_apart n h i j a b m lt x y u v =
      let ca = contains_read (children_of s n) i a x in
      let cb = contains_read (children_of s n) j b y in
      let once : a ≡ b → ⊥ = λ e. child_once n a i j h lt x (subst (λ (k : NodeId). slice_get (children_of s n) j ≡ Some k) (sym e) y) in
      ⊎_elim (λ w. once (child_not_under n a b h ca cb w)) (λ w. once (sym (child_not_under n b a h cb ca w)))
      (under_two c sound m a b (falls.in_range n h a ca) (falls.in_range n h b cb) u v)

  abbrev roots : List ℕ
  roots = root_nodes c.roots

  stand : RootsStandApart c
  stand = roots_apart c sound

  root_read : (i : ℕ) (a : NodeId) → slice_get (map node.Expr roots) i ≡ Some a → (i < length c.roots) × (a ≡ node.Expr (get_or roots i 0))
  root_read i a e =
      let lt : i < length roots = omega (arith, slice_get_within (map node.Expr roots) i a e, length-map roots node.Expr) in
      let is : Some (node.Expr (get_or roots i 0)) ≡ Some a = sym (ap (option_map node.Expr) (slice_get-get_or roots i 0 lt)) ∙ sym (slice_get-map node.Expr roots i) ∙ e in
      (omega (arith, lt, length-map c.roots (λ r. r.node)), (cc))

  root_not_under : (i j : ℕ) → i < length c.roots → j < length c.roots → (get_or roots i 0 ≡ get_or roots j 0 → ⊥) → Under s (node.Expr (get_or roots i 0)) (node.Expr (get_or roots j 0)) → ⊥
  root_not_under i j h l ne u = let way = climb_from_under c sound (node.Expr (get_or roots i 0)) u (stand.in_range j l) in by way.0 way.1
    where
      by : (k : ℕ) → Climbs g k (get_or roots i 0) (get_or roots j 0) → ⊥
      by zero e = ne e
      by (suc k) w = stand.not_under i j h l (k, w)

  -- no two listed roots have a common descendant
  pub roots_are_disjoint : AreDisjoint s (map node.Expr roots)
  roots_are_disjoint i j a b m lt x y u v =
      let ra = root_read i a x in
      let rb = root_read j b y in
      let ua = subst (λ (t : NodeId). Under s m t) ra.1 u in
      let ub = subst (λ (t : NodeId). Under s m t) rb.1 v in
      let ne = stand.listed_once i j lt rb.0 in
      ⊎_elim (λ w. root_not_under i j ra.0 rb.0 ne w) (λ w. root_not_under j i rb.0 ra.0 (λ e. ne (sym e)) w)
      (under_two c sound m (node.Expr (get_or roots i 0)) (node.Expr (get_or roots j 0)) (stand.in_range i ra.0) (stand.in_range j rb.0) ua ub)
