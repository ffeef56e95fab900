-- Chains of parents: how they end, how long they are, and which marked nodes are on them.
use Rattle.std.proofs.Common.{◌≡◌, ℕ, zero, suc, ◌+◌, ◌<◌, ◌≤◌, ◌⊎◌, ◌↔◌, Bool, true, false, not, cond, List, Option, Some, None, length, get_or, set, inl, inr, ⊎_elim, refl, ap, sym, ◌∙◌, subst, arith, add-one, Contains}
use Rattle.std.specs.Prelude.{count_by}
use Rattle.std.proofs.lemmas.Bool.{cases_eq, false≢true}
use Rattle.std.proofs.lemmas.List.{get_or-set_same, get_or-set_other}
use Rattle.std.proofs.lemmas.List.Sums.{sum_by-set}
use Rattle.hir_forest.specs.Forest.{IsChild, Climbs, IsTop, ChainEnds, LiesUnder, Marks, LiesUnderMarked, HasOneParent}
use Rattle.hir_forest.specs.Faults.{LiesUnderRoot}
use Rattle.hir_forest.specs.Parents.{HasParents}
use Rattle.hir_forest.specs.internal.Parents.{IsOnChain, MeetsMarked, AreClear}
use Rattle.hir_forest.proofs.HeightLemmas.{chain_short, join, extend}
use Rattle.hir_forest.proofs.MarkLemmas.{Marks-set, Marks-kept, Marks-here}

-- a way up is no longer than the chain that ends
no_longer : (g : List (List ℕ)) → HasOneParent g → (a k c x t : ℕ) → Climbs g a c x → Climbs g k c t → IsTop g t → a ≤ k
no_longer g one zero k c x t u v top = omega arith
no_longer g one (suc a) zero c x t u v top = absurd (top u.0 (subst (IsChild g u.0) v u.1))
no_longer g one (suc a) (suc k) c x t u v top =
    let e = one u.0 v.0 c u.1 v.1 in
    let h = no_longer g one a k v.0 x t (subst (λ (q : ℕ). Climbs g a q x) e u.2) v.2 top in
    omega arith

-- who is on a chain that ends has one that ends
ends_above : (g : List (List ℕ)) → HasOneParent g → (k c r : ℕ) → Climbs g k c r → ChainEnds g c → ChainEnds g r
ends_above g one zero c r u e = subst (ChainEnds g) u e
ends_above g one (suc k) c r u (zero, t, v, top) = absurd (top u.0 (subst (IsChild g u.0) v u.1))
ends_above g one (suc k) c r u (suc j, t, v, top) =
    ends_above g one k u.0 r u.2 (j, t, subst (λ (q : ℕ). Climbs g j q t) (one v.0 u.0 c v.1 u.1) v.2, top)

module _ (g : List (List ℕ)) (parents : List (Option ℕ)) (h : HasParents g parents) where
  pub only_parent : HasOneParent g
  only_parent p q c k l =
      let a : get_or parents c None ≡ Some p = (h.children c p).1 k in
      let b : get_or parents c None ≡ Some q = (h.children c q).1 l in
      same p q (sym a ∙ b)
    where
      same : (x y : ℕ) → Some x ≡ Some y → x ≡ y
      same x y e = cc

  pub has_child : (c p : ℕ) → get_or parents c None ≡ Some p → IsChild g p c
  has_child c p is = (h.children c p).0 is

  pub is_top : (c : ℕ) → get_or parents c None ≡ None → IsTop g c
  is_top c none q k = clash q (sym none ∙ (h.children c q).1 k)
    where
      clash : (q : ℕ) → None ≡ Some q → ⊥
      clash q e = cc

  -- one step more on the way up
  pub up : (i node at parent : ℕ) → Climbs g i node at → get_or parents at None ≡ Some parent → Climbs g (i + 1) node parent
  up i node at parent u is = rw add-one (extend g i node at parent u (has_child at parent is))

  -- a chain ends where one above does, and no other way
  pub ends_from : (i node at : ℕ) → Climbs g i node at → ChainEnds g at → ChainEnds g node
  ends_from i node at u e = (i + e.0, e.1, join g i e.0 node at e.1 u e.2, e.3)

  pub ends_at_top : (i node at : ℕ) → Climbs g i node at → get_or parents at None ≡ None → ChainEnds g node
  ends_at_top i node at u none = ends_from i node at u (0, at, refl, is_top at none)

  pub ends_on_chain : (node r : ℕ) → IsOnChain g node r → ChainEnds g node → ChainEnds g r
  ends_on_chain node r u e = ends_above g only_parent u.0 node r u.1 e

  -- a way of as many steps as there are nodes is no part of a chain that ends
  pub too_long : (i node at : ℕ) → Climbs g i node at → node < length parents → length parents ≤ i → ChainEnds g node → ⊥
  too_long i node at u within long e =
      let a = no_longer g only_parent i e.0 node at e.1 u e.2 e.3 in
      let b = chain_short g only_parent e.0 node e.1 e.2 e.3 (omega (arith, h.nodes)) in
      omega (arith, h.nodes)

  -- a chain ends where that of the parent does
  pub ends_at_parent : (node parent : ℕ) → get_or parents node None ≡ Some parent → ChainEnds g parent → ChainEnds g node
  ends_at_parent node parent is e = (suc e.0, e.1, (parent, has_child node parent is, e.2), e.3)

  -- whose chain ends isn't properly under itself
  pub not_under_itself : (c : ℕ) → ChainEnds g c → LiesUnder g c c → ⊥
  not_under_itself c e u =
      let long = no_longer g only_parent (suc u.0 + e.0) e.0 c e.1 e.1 (join g (suc u.0) e.0 c c e.1 u.1 e.2) e.2 e.3 in
      omega arith

  -- marked nodes on a chain, step by step
  pub meets_next : (marked : List Bool) (at parent : ℕ) → get_or marked at false ≡ false → get_or parents at None ≡ Some parent → MeetsMarked g marked at → MeetsMarked g marked parent
  meets_next marked at parent un is (r, m, (zero, e)) = absurd (false≢true (sym un ∙ subst (Marks marked) (sym e) m))
  meets_next marked at parent un is (r, m, (suc k, u)) =
      (r, m, (k, subst (λ (q : ℕ). Climbs g k q r) (only_parent u.0 parent at u.1 (has_child at parent is)) u.2))

  pub meets_from : (marked : List Bool) (node at : ℕ) → IsOnChain g node at → MeetsMarked g marked at → MeetsMarked g marked node
  meets_from marked node at u m = (m.0, m.1, (u.0 + m.2.0, join g u.0 m.2.0 node at m.0 u.1 m.2.1))

  pub meets_none : (marked : List Bool) (at : ℕ) → get_or marked at false ≡ false → get_or parents at None ≡ None → MeetsMarked g marked at → ⊥
  meets_none marked at un none (r, m, (zero, e)) = false≢true (sym un ∙ subst (Marks marked) (sym e) m)
  meets_none marked at un none (r, m, (suc k, u)) = is_top at none u.0 u.1

  -- a descendant of a marked node has a parent whose chain contains one
  pub under_next : (marked : List Bool) (node parent : ℕ) → get_or parents node None ≡ Some parent → LiesUnderMarked g marked node ↔ MeetsMarked g marked parent
  under_next marked node parent is = (
    λ l. (l.0, l.1, (l.2.0, subst (λ (q : ℕ). Climbs g l.2.0 q l.0) (only_parent l.2.1.0 parent node l.2.1.1 (has_child node parent is)) l.2.1.2)),
    λ m. (m.0, m.1, (m.2.0, (parent, has_child node parent is, m.2.1))),
  )

  pub under_none : (marked : List Bool) (node : ℕ) → get_or parents node None ≡ None → LiesUnderMarked g marked node → ⊥
  under_none marked node none l = is_top node none l.2.1.0 l.2.1.1

  -- nodes that become clear with a node
  pub clear_more : (listed old new : List Bool) (node : ℕ) → AreClear g listed old → (MeetsMarked g listed node → ⊥) → ((c : ℕ) → Marks new c → Marks old c ⊎ IsOnChain g node c) → AreClear g listed new
  clear_more listed old new node clear unmet fresh c m meets = ⊎_elim (λ o. clear c o meets) (λ u. unmet (meets_from listed node c u meets)) (fresh c m)

  -- a table that marks nothing
  pub clear_none : (listed clear : List Bool) → ((c : ℕ) → Marks clear c → ⊥) → AreClear g listed clear
  clear_none listed clear none c m meets = none c m

-- marks stay right if a node is marked whose chain ends, or one is not marked
pub ends_with : (g : List (List ℕ)) (ends : List Bool) (node : ℕ) (b : Bool) → node < length ends → ((c : ℕ) → Marks ends c → ChainEnds g c) → (b ≡ true → ChainEnds g node) → (c : ℕ) → Marks (set ends node b) c → ChainEnds g c
ends_with g ends node b low old here c m =
    elim (cases_eq c node) [
      | inl e ↦ subst (ChainEnds g) (sym e) (here (sym (get_or-set_same ends node b false low) ∙ subst (Marks (set ends node b)) e m))
      | inr ne ↦ old c (sym (get_or-set_other ends node c b false ne) ∙ m)
    ]

-- the listed roots, by the table that marks them
pub under_root : (g : List (List ℕ)) (listed : List Bool) (limit : ℕ) (roots : List ℕ) → ((r : ℕ) → Marks listed r ↔ (Contains roots r × (r < limit))) → (c : ℕ) → LiesUnderMarked g listed c ↔ LiesUnderRoot g limit roots c
under_root g listed limit roots is c = (
  λ l. let m = (is l.0).0 l.1 in (l.0, m.0, m.1, l.2),
  λ l. (l.0, (is l.0).1 (l.1, l.2), l.3),
)

-- the way from a node as far as it has been marked, up to the node at which the walk is
pub record MarksWay (parents : List (Option ℕ)) (node at : ℕ) (old now : List Bool) : Type 0 where
  pub within : at < length parents
  pub first : Marks now node ⊎ (at ≡ node)
  pub stays : (c : ℕ) → Marks old c → Marks now c
  pub way : (g : List (List ℕ)) → HasParents g parents → IsOnChain g node at
  pub fresh : (g : List (List ℕ)) → HasParents g parents → (c : ℕ) → Marks now c → Marks old c ⊎ IsOnChain g node c

pub way_start : (parents : List (Option ℕ)) (node : ℕ) (old : List Bool) → node < length parents → MarksWay parents node node old old
way_start parents node old h = record {
  within = h;
  first = inr refl;
  stays = λ c m. m;
  way = λ g k. (zero, refl);
  fresh = λ g k c m. inl m;
}

module _ (parents : List (Option ℕ)) (node at : ℕ) (old now : List Bool) (s : MarksWay parents node at old now) (in' : at < length now) where
  pub node_marked : Marks (set now at true) node
  node_marked = ⊎_elim (λ m. Marks-kept now at node in' m) (λ e. subst (Marks (set now at true)) e (Marks-here now at in')) s.first

  pub still_marked : (c : ℕ) → Marks old c → Marks (set now at true) c
  still_marked c m = Marks-kept now at c in' (s.stays c m)

  pub on_way : (g : List (List ℕ)) → HasParents g parents → (c : ℕ) → Marks (set now at true) c → Marks old c ⊎ IsOnChain g node c
  on_way g h c m = ⊎_elim (λ n. s.fresh g h c n) (λ e. inr (subst (IsOnChain g node) e (s.way g h))) (Marks-set now at c in' m)

  pub way_next : (parent : ℕ) → get_or parents at None ≡ Some parent → parent < length parents → MarksWay parents node parent old (set now at true)
  way_next parent is low = record {
    within = low;
    first = inl node_marked;
    stays = still_marked;
    way = λ g h. (let w = s.way g h in (suc w.0, extend g w.0 node at parent w.1 (has_child g parents h at parent is)));
    fresh = on_way;
  }

  pub fewer_left : get_or now at false ≡ false → count_by not (set now at true) < count_by not now
  fewer_left unmarked =
      let fell = sum_by-set (λ (x : Bool). cond {A = ℕ} (not x) 1 0) now at true false in' in
      let one : ◌≡◌ {A = ℕ} (cond {A = ℕ} (not (get_or now at false)) 1 0) 1 = ap (λ (x : Bool). cond {A = ℕ} (not x) 1 0) unmarked in
      omega arith
