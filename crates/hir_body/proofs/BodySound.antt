-- What the table of nodes under others says of formals and the last root, and what a body without a fault is.
use Rattle.std.proofs.Common.{◌≡◌, ℕ, zero, suc, ◌+◌, ◌-◌, ◌<◌, ◌⊎◌, ◌↔◌, List, [], ◌∷◌, ◌++◌, Option, Some, None, IfSome, inl, inr, ⊎_elim, refl, ap, sym, ◌∙◌, subst, arith, length, map, take, get_or, slice_get, All, Contains}
use Rattle.std.specs.Prelude.{Result, Ok, Err, IfOk}
use Rattle.std.proofs.lemmas.List.{length-map, get_or-map, get_or_default, get_or-take, length-take-le}
use Rattle.std.proofs.lemmas.List.Elements.{Contains-append_left, Contains-append_cases, Contains-push, Contains-push_cases}
use Rattle.std.proofs.lemmas.Option.{get_or_from_slice_get, slice_get_within}
use Rattle.hir_forest.specs.Verdict.{first_below}
use Rattle.hir_forest.specs.Faults.{root_nodes}
use Rattle.hir_forest.proofs.VerdictLemmas.{unless-same, first_below-same}
use Rattle.hir_node.specs.declared.node_id.NodeId.{NodeId}
use Rattle.hir_node.specs.declared.node_id.NodeId.TheVariants as node
use Rattle.hir_validate.specs.Sizes.{HasNode}
use Rattle.hir_validate.specs.Nodes.{Has, sizes_of, children_of}
use Rattle.hir_validate.specs.declared.node_arenas.Nodes.{Nodes}
use Rattle.hir_validate.specs.Recursion.{RankDecreases}
use Rattle.hir_store_core.specs.Contents.{Contents, rooted_of, contents_fault}
use Rattle.hir_store_core.specs.Under.{Under, itself, below, LiesUnderOther, AreDisjoint}
use Rattle.hir_store_core.specs.NodeSets.{MarkedNodes, IsIn, Gains, NoChildIn}
use Rattle.hir_validate.specs.Sound.{RootsStandApart}
use Rattle.hir_body.specs.declared.formals.Param.{Param}
use Rattle.hir_body.specs.declared.body_fault.BodyFault.{BodyFault}
use Rattle.hir_body.specs.declared.body_fault.BodyFault.TheVariants.{NoRoot, SelfOutOfRange, ParamOutOfRange, ParamRepeated, ParamUnder, RootInParam}
use Rattle.hir_body.specs.Bodies.{BodyContents, formals_of, user_written_of, last_root, entry_nodes_of, entry_nodes, AreBelow, range_fault, repeated_fault, under_fault, fault_at_root, apart_fault, body_fault}
use Rattle.hir_body.specs.internal.Bodies.{GainsAll}
use Rattle.hir_body.proofs.BodyLemmas.{pat_of_node, node_of_pat}

-- where a node is a descendant of two nodes, one of the two is a descendant of the other
abbrev pub OneIsUnderOther : Nodes → Type 0
OneIsUnderOther s = (n a b : NodeId) → Has s a → Has s b → Under s n a → Under s n b → Under s a b ⊎ Under s b a

-- the last root is an expression that exists
pub root_in_range : (c : Contents) → RootsStandApart (rooted_of c) → (root : ℕ) → last_root c ≡ Some root → root < length c.nodes.exprs
root_in_range c stand root e =
    let xs = root_nodes c.roots in
    let i = length xs - 1 in
    let h = slice_get_within xs i root e in
    subst (λ (n : ℕ). n < length c.nodes.exprs) (get_or_from_slice_get xs i root 0 e) (stand.in_range i (omega (arith, length-map c.roots (λ r. r.node))))

-- each formal exists
pub all_in_range : (limit : ℕ) (params : List (Param ℕ)) → ((i : ℕ) → i < length params → range_fault limit params i None) → All (λ p. p.formal < limit) params
all_in_range limit params none = λ i d h. subst (λ (n : ℕ). n < limit) (get_or-map (λ p. p.formal) params i d 0 h) (none i h).0

-- and so is what the user wrote
pub both_in_range : (limit : ℕ) (params : List (Param ℕ)) → ((i : ℕ) → i < length params → range_fault limit params i None) → All (AreBelow limit) params
both_in_range limit params none = λ i d h. (
  subst (λ (n : ℕ). n < limit) (get_or-map (λ p. p.formal) params i d 0 h) (none i h).0,
  subst (λ (n : ℕ). n < limit) (get_or-map (λ p. p.user_written) params i d 0 h) (none i h).1,
)

other_same : (s : Nodes) (A B : NodeId → Type 0) → ((r : NodeId) → Has s r → A r ↔ B r) → (n : NodeId) → LiesUnderOther s A n ↔ LiesUnderOther s B n
other_same s A B same n = (λ x. (x.0, x.1, (same x.0 x.1).0 x.2, x.3, x.4), λ x. (x.0, x.1, (same x.0 x.1).1 x.2, x.3, x.4))

-- another of the formals and the last root than the last root is a formal
root_under : (s : Nodes) (params : List (Param ℕ)) (root : ℕ) → LiesUnderOther s (Contains (entry_nodes_of params root)) (node.Expr root) ↔ LiesUnderOther s (Contains (map node.Pat (formals_of params))) (node.Expr root)
root_under s params root = (
  λ x. (x.0, x.1, ⊎_elim (λ m. m) (λ e. absurd (x.3 e)) (Contains-push_cases (map node.Pat (formals_of params)) (node.Expr root) x.0 x.2), x.3, x.4),
  λ x. (x.0, x.1, Contains-append_left (map node.Pat (formals_of params)) (node.Expr root ∷ []) x.0 x.2, x.3, x.4),
)

pat_in : (xs : List ℕ) (i : ℕ) → i < length xs → Contains (map node.Pat xs) (node.Pat (get_or xs i 0))
pat_in xs i h = (i, omega (arith, length-map xs node.Pat), get_or-map node.Pat xs i 0 (node.Pat (get_or xs i 0)) h)

-- a node under another one is a child
is_child : (s : Nodes) → RankDecreases s → (n : NodeId) {r : NodeId} → Has s r → Under s n r → (n ≡ r) ⊎ ((p : NodeId) × Has s p × Contains (children_of s p) n)
is_child s falls n h itself = inl refl
is_child s falls n h (below {k} {r} d u) = inr (⊎_elim (λ e. (r, h, subst (Contains (children_of s r)) (sym e) d)) (λ x. x) (is_child s falls n (falls.in_range r h k d) u))

no_other : (s : Nodes) (set : MarkedNodes) → RankDecreases s → NoChildIn s set → (n : NodeId) → IsIn set n → (Among : NodeId → Type 0) → LiesUnderOther s Among n → ⊥
no_other s set falls apart n i Among x = ⊎_elim x.3 (λ k. apart k.0 n k.1 k.2 i) (is_child s falls n x.1 x.4)

module _ (s : Nodes) (params : List (Param ℕ)) (root : ℕ) (old mid new : MarkedNodes) (size : old.sizes ≡ sizes_of s) (none : (n : NodeId) → IsIn old n → ⊥)
    (all : GainsAll old (map node.Pat (formals_of params)) mid) (one : Gains mid (node.Expr root) new) where
  -- the set has the formals and the last root
  entry_nodes_in : (n : NodeId) → Has s n → IsIn new n ↔ Contains (entry_nodes_of params root) n
  entry_nodes_in n h =
      let old_has : HasNode old.sizes n = subst (λ z. HasNode z n) (sym size) h in
      let mid_has : HasNode mid.sizes n = subst (λ z. HasNode z n) (sym all.0) old_has in
      let more = one.members n mid_has in
      let before = all.1 n old_has in
      let fs = map node.Pat (formals_of params) in (
        λ m. ⊎_elim (λ k. ⊎_elim (λ o. absurd (none n o)) (λ f. Contains-append_left fs (node.Expr root ∷ []) n f) (before.0 k)) (λ e. subst (Contains (entry_nodes_of params root)) (sym e) (Contains-push fs (node.Expr root))) (more.0 m),
        λ m. more.1 (⊎_elim (λ f. inl (before.1 (inr f))) (λ e. inr (sym e)) (Contains-push_cases fs (node.Expr root) n m)),
      )

  -- where no child is in the set, none of these is a descendant of another
  module _ (falls : RankDecreases s) (apart : NoChildIn s new) where
    pub none_under : All (λ p. p.formal < length s.pats) params → first_below (length params) (under_fault (LiesUnderOther s (Contains (entry_nodes_of params root))) (formals_of params)) None
    none_under in_range = λ i h l.
        let p = get_or params i record { formal = 0; user_written = 0 } in
        let formal : p.formal ≡ get_or (formals_of params) i 0 = sym (get_or-map (λ p. p.formal) params i record { formal = 0; user_written = 0 } 0 h) in
        let has : Has s (node.Pat (get_or (formals_of params) i 0)) = subst (λ (n : ℕ). n < length s.pats) formal (in_range i record { formal = 0; user_written = 0 } h) in
        let member : Contains (entry_nodes_of params root) (node.Pat (get_or (formals_of params) i 0)) = Contains-append_left (map node.Pat (formals_of params)) (node.Expr root ∷ []) (node.Pat (get_or (formals_of params) i 0)) (pat_in (formals_of params) i (let n = length-map params (λ p. p.formal) in omega arith)) in
        no_other s new falls apart (node.Pat (get_or (formals_of params) i 0)) ((entry_nodes_in (node.Pat (get_or (formals_of params) i 0)) has).1 member) (Contains (entry_nodes_of params root)) l

    pub root_not_under : root < length s.exprs → LiesUnderOther s (Contains (map node.Pat (formals_of params))) (node.Expr root) → ⊥
    root_not_under h = no_other s new falls apart (node.Expr root) ((entry_nodes_in (node.Expr root) h).1 (Contains-push (map node.Pat (formals_of params)) (node.Expr root))) (Contains (map node.Pat (formals_of params)))

module _ (s : Nodes) (params : List (Param ℕ)) (root : ℕ) (old mid new found : MarkedNodes) (size : old.sizes ≡ sizes_of s) (none : (n : NodeId) → IsIn old n → ⊥)
    (all : GainsAll old (map node.Pat (formals_of params)) mid) (one : Gains mid (node.Expr root) new) (right : (n : NodeId) → Has s n → IsIn found n ↔ LiesUnderOther s (IsIn new) n) where
  found_is : (n : NodeId) → Has s n → IsIn found n ↔ LiesUnderOther s (Contains (entry_nodes_of params root)) n
  found_is n h =
      let r = right n h in
      let o = other_same s (IsIn new) (Contains (entry_nodes_of params root)) (entry_nodes_in s params root old mid new size none all one) n in
      (λ m. o.0 (r.0 m), λ l. r.1 (o.1 l))

  pub under_told : All (λ p. p.formal < length s.pats) params → (o : Option BodyFault) → first_below (length params) (under_fault (IsIn found) (formals_of params)) o
      → first_below (length params) (under_fault (LiesUnderOther s (Contains (entry_nodes_of params root))) (formals_of params)) o
  under_told in_range = first_below-same (length params) (under_fault (IsIn found) (formals_of params)) (under_fault (LiesUnderOther s (Contains (entry_nodes_of params root))) (formals_of params)) (λ i h a v.
      let p = get_or params i record { formal = 0; user_written = 0 } in
      let formal : p.formal ≡ get_or (formals_of params) i 0 = sym (get_or-map (λ p. p.formal) params i record { formal = 0; user_written = 0 } 0 h) in
      let f = found_is (node.Pat (get_or (formals_of params) i 0)) (subst (λ (n : ℕ). n < length s.pats) formal (in_range i record { formal = 0; user_written = 0 } h)) in
      unless-same (ParamUnder i) _ _ (λ no l. no (f.1 l), λ no m. no (f.0 m)) a v)

  pub root_told : root < length s.exprs → IsIn found (node.Expr root) ↔ LiesUnderOther s (Contains (map node.Pat (formals_of params))) (node.Expr root)
  root_told h =
      let f = found_is (node.Expr root) h in
      let r = root_under s params root in
      (λ m. r.0 (f.0 m), λ l. f.1 (r.1 l))

-- the first fault by cases
module _ (s : Nodes) (params : List (Param ℕ)) (root : ℕ) where
  abbrev Repeats : Option BodyFault → Type 0
  Repeats = first_below (length params) (repeated_fault (formals_of params))

  abbrev Under' : Option BodyFault → Type 0
  Under' = first_below (length params) (under_fault (LiesUnderOther s (Contains (entry_nodes_of params root))) (formals_of params))

  pub apart_repeated : (f : BodyFault) → Repeats (Some f) → apart_fault s params root (Some f)
  unfolding apart_fault
  apart_repeated f h = inl h

  pub apart_under : (f : BodyFault) → Repeats None → Under' (Some f) → apart_fault s params root (Some f)
  unfolding apart_fault
  apart_under f n h = inr (n, inl h)

  pub apart_root : Repeats None → Under' None → LiesUnderOther s (Contains (map node.Pat (formals_of params))) (node.Expr root) → apart_fault s params root (Some RootInParam)
  unfolding apart_fault
  apart_root n m h = inr (n, inr (m, (refl, λ no. no h)))

  pub apart_none : Repeats None → Under' None → (LiesUnderOther s (Contains (map node.Pat (formals_of params))) (node.Expr root) → ⊥) → apart_fault s params root None
  unfolding apart_fault
  apart_none n m h = (n, (m, h))

module _ (b : BodyContents) where
  pub no_root : None ≡ last_root b.store → body_fault b (Some NoRoot)
  unfolding body_fault
  no_root e = subst (λ root. fault_at_root b root (Some NoRoot)) e refl

  pub at_root : (root : ℕ) → Some root ≡ last_root b.store → (o : Option BodyFault) → fault_at_root b (Some root) o → body_fault b o
  unfolding body_fault
  at_root root e o h = subst (λ root. fault_at_root b root o) e h

  pub fault_is_at_root : body_fault b None → (root : ℕ) × (last_root b.store ≡ Some root) × fault_at_root b (Some root) None
  unfolding body_fault
  fault_is_at_root h = by_root (last_root b.store) refl h
    where
      by_root : (o : Option ℕ) → last_root b.store ≡ o → fault_at_root b o None → (root : ℕ) × (last_root b.store ≡ Some root) × fault_at_root b (Some root) None
      by_root None e h = absurd (let n : ⊥ = cc in n)
      by_root (Some root) e h = (root, e, h)

pub last_part : (b : BodyContents) (root : ℕ) → IfSome b.self_param (AreBelow (length b.store.nodes.bindings)) → first_below (length b.params) (range_fault (length b.store.nodes.pats) b.params) None
    → (o : Option BodyFault) → apart_fault b.store.nodes b.params root o → fault_at_root b (Some root) o
last_part b root self range None h = (self, (range, h))
last_part b root self range (Some f) h = inr (self, inr (range, h))

pub IfOk-more : {T E : Type 0} (P Q : T → Type 0) → ((x : T) → P x → Q x) → (r : Result T E) → IfOk r P → IfOk r Q
IfOk-more P Q f (Ok x) h = f x h
IfOk-more P Q f (Err e) h = h

-- the node at a place among the formals and the last root
top_at : (fs : List ℕ) (root i : ℕ) (a : NodeId) → slice_get (map node.Pat fs ++ node.Expr root ∷ []) i ≡ Some a → ((i < length fs) × (a ≡ node.Pat (get_or fs i 0))) ⊎ ((i ≡ length fs) × (a ≡ node.Expr root))
top_at [] root zero a e = inr (refl, cc)
top_at [] root (suc i) a e = absurd (let n : ⊥ = cc in n)
top_at (f ∷ fs) root zero a e = inl (omega arith, cc)
top_at (f ∷ fs) root (suc i) a e = ⊎_elim (λ x. inl (omega (arith, x.0), x.1)) (λ x. inr (ap suc x.0, x.1)) (top_at fs root i a e)

module _ (c : Contents) (params : List (Param ℕ)) (root : ℕ) (in_range : All (λ p. p.formal < length c.nodes.pats) params) (root_in : root < length c.nodes.exprs) where
  formal_in_range : (i : ℕ) → i < length (formals_of params) → get_or (formals_of params) i 0 < length c.nodes.pats
  formal_in_range i h =
      let k : i < length params = omega (arith, length-map params (λ p. p.formal)) in
      let d : Param ℕ = record { formal = 0; user_written = 0 } in
      subst (λ (n : ℕ). n < length c.nodes.pats) (sym (get_or-map (λ p. p.formal) params i d 0 k)) (in_range i d k)

  pub top_in_range : (n : NodeId) → Contains (entry_nodes_of params root) n → Has c.nodes n
  top_in_range n m =
      ⊎_elim
      (λ f.
      let h : f.0 < length (formals_of params) = omega (arith, f.1, length-map (formals_of params) node.Pat) in
      let e : node.Pat (get_or (formals_of params) f.0 0) ≡ n = sym (get_or-map node.Pat (formals_of params) f.0 0 n h) ∙ f.2 in
      subst (Has c.nodes) e (formal_in_range f.0 h))
      (λ e. subst (Has c.nodes) e root_in)
      (Contains-push_cases (map node.Pat (formals_of params)) (node.Expr root) n m)

  module _ (none : apart_fault c.nodes params root None) (under_two : OneIsUnderOther c.nodes) where
    parts : first_below (length params) (repeated_fault (formals_of params)) None
        × first_below (length params) (under_fault (LiesUnderOther c.nodes (Contains (entry_nodes_of params root))) (formals_of params)) None
        × (LiesUnderOther c.nodes (Contains (map node.Pat (formals_of params))) (node.Expr root) → ⊥)
    unfolding apart_fault
    parts = (none.0, none.1.0, none.1.1)

    -- none is a descendant of another
    lone : (x : NodeId) → Contains (entry_nodes_of params root) x → LiesUnderOther c.nodes (Contains (entry_nodes_of params root)) x → ⊥
    lone x m l =
        ⊎_elim
        (λ f.
        let h : f.0 < length (formals_of params) = omega (arith, f.1, length-map (formals_of params) node.Pat) in
        let e : node.Pat (get_or (formals_of params) f.0 0) ≡ x = sym (get_or-map node.Pat (formals_of params) f.0 0 x h) ∙ f.2 in
        parts.1 f.0 (omega (arith, length-map params (λ p. p.formal))) (subst (LiesUnderOther c.nodes (Contains (entry_nodes_of params root))) (sym e) l))
        (λ e. parts.2 ((root_under c.nodes params root).0 (subst (LiesUnderOther c.nodes (Contains (entry_nodes_of params root))) (sym e) l)))
        (Contains-push_cases (map node.Pat (formals_of params)) (node.Expr root) x m)

    taken : (i j : ℕ) → i < j → j < length (formals_of params) → Contains (take j (formals_of params)) (get_or (formals_of params) i 0)
    taken i j l h =
        let xs = formals_of params in
        let at : get_or xs i (get_or xs i 0) ≡ get_or xs i 0 = get_or_default xs i (get_or xs i 0) 0 (omega arith) in
        let len = length-take-le j xs (omega arith) in
        (i, omega arith, get_or-take j xs i (get_or xs i 0) l ∙ at)

    same_formal : (x y : ℕ) → node.Pat x ≡ node.Pat y → x ≡ y
    same_formal x y e = cc

    no_formal : (x y : ℕ) → node.Pat x ≡ node.Expr y → ⊥
    no_formal x y e = cc

    distinct : (i j : ℕ) (a b : NodeId) → i < j → slice_get (entry_nodes_of params root) i ≡ Some a → slice_get (entry_nodes_of params root) j ≡ Some b → a ≡ b → ⊥
    distinct i j a b l e k same =
        let xs = formals_of params in
        ⊎_elim
        (λ x. ⊎_elim
        (λ y.
        let both = same_formal (get_or xs i 0) (get_or xs j 0) (sym x.1 ∙ same ∙ y.1) in
        parts.0 j (omega (arith, y.0, length-map params (λ p. p.formal))) (subst (Contains (take j xs)) both (taken i j l y.0)))
        (λ y. no_formal (get_or xs i 0) root (sym x.1 ∙ same ∙ y.1))
        (top_at xs root j b k))
        (λ x. ⊎_elim (λ y. absurd (omega (arith, x.0, y.0))) (λ y. absurd (omega (arith, x.0, y.0))) (top_at xs root j b k))
        (top_at xs root i a e)

    pub apart : AreDisjoint c.nodes (entry_nodes_of params root)
    apart i j a b n l e k u v =
        let xs = entry_nodes_of params root in
        let first : Contains xs a = (i, slice_get_within xs i a e, get_or_from_slice_get xs i a a e) in
        let second : Contains xs b = (j, slice_get_within xs j b k, get_or_from_slice_get xs j b b k) in
        let ne = distinct i j a b l e k in
        ⊎_elim
        (λ x. lone a first (b, top_in_range b second, second, ne, x))
        (λ x. lone b second (a, top_in_range a first, first, (λ q. ne (sym q)), x))
        (under_two n a b (top_in_range a first) (top_in_range b second) u v)

-- the formals and the last root of a body without a fault
module _ (b : BodyContents) (stand : RootsStandApart (rooted_of b.store)) (none : body_fault b None) where
  pub body_entry_nodes_in_range : (n : NodeId) → Contains (entry_nodes b) n → Has b.store.nodes n
  body_entry_nodes_in_range n m =
      let at = fault_is_at_root b none in
      let m' : Contains (entry_nodes_of b.params at.0) n = rw at.1 at m in
      top_in_range b.store b.params at.0 (all_in_range (length b.store.nodes.pats) b.params at.2.1.0) (root_in_range b.store stand at.0 at.1) n m'

  pub body_entry_nodes_apart : OneIsUnderOther b.store.nodes → AreDisjoint b.store.nodes (entry_nodes b)
  body_entry_nodes_apart under_two =
      let at = fault_is_at_root b none in
      rw at.1 (apart b.store b.params at.0 (all_in_range (length b.store.nodes.pats) b.params at.2.1.0) (root_in_range b.store stand at.0 at.1) at.2.1.1 under_two)

-- what a body without a fault names exists; `now` is the body as a caller sees it
module _ (b : BodyContents) (none : body_fault b None) (now : BodyContents) (same : b ≡ now) where
  pub params_in_range : (params : List (Param ℕ)) → params ≡ b.params → All (AreBelow (length now.store.nodes.pats)) params
  params_in_range params e =
      let in_range = both_in_range (length b.store.nodes.pats) b.params (fault_is_at_root b none).2.1.0 in
      subst (λ (v : BodyContents). All (AreBelow (length v.store.nodes.pats)) params) same (subst (All (AreBelow (length b.store.nodes.pats))) (sym e) in_range)

  pub self_in_range : IfSome b.self_param (AreBelow (length now.store.nodes.bindings))
  self_in_range = subst (λ (v : BodyContents). IfSome b.self_param (AreBelow (length v.store.nodes.bindings))) same (fault_is_at_root b none).2.0

  pub root_below : RootsStandApart (rooted_of b.store) → (root : ℕ) → last_root b.store ≡ Some root → root < length now.store.nodes.exprs
  root_below stand root e = subst (λ (v : BodyContents). root < length v.store.nodes.exprs) same (root_in_range b.store stand root e)
