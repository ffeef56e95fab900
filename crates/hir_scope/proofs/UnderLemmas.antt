-- The frames that a node leaves open by those of its children, the descendants of a node in its context, and in
-- which contexts a node occurs.
use Rattle.std.proofs.Common.{◌≡◌, ℕ, zero, suc, List, [], ◌∷◌, map, refl, sym, ap, ◌∙◌, Contains, arith, subst, ◌<◌, inl, inr, ⊎_elim, rules}
use Rattle.std.proofs.{Math.Path.fun_ext, lemmas.List.append-nil}
use Rattle.std.proofs.lemmas.List.Sorted.{IsPermutation-sym, Contains-permutation}
use Rattle.std.specs.List.{flat_map, filter}
use Rattle.hir_node.specs.ChildCalls.{Call, OnExpr, OnPat, OnLifetime, opt, e, children}
use Rattle.hir_node.specs.declared.node_id.NodeId.{NodeId}
use Rattle.hir_validate.specs.Recursion.{RankDecreases, AgreeOn, DependsOnChildren, rank}
use Rattle.hir_validate.specs.Nodes.{Has, children_of}
use Rattle.hir_validate.specs.declared.node_arenas.Nodes.{Nodes}
use Rattle.hir_validate.proofs.RecursionLemmas.{agree_from_members, fold_down_at}
use Rattle.hir_store_core.specs.Under.{Under, itself, below, IsReached}
use Rattle.hir_store_core.proofs.UnderLemmas.{under_more}
use Rattle.hir_scope.specs.BodyScopes.{is_expr}
use Rattle.hir_scope.specs.Chains.{InContext, child_in_context, children_in_context, Occurs, entry_node, child}
use Rattle.hir_scope.specs.{ScopingForms.ScopingForm, ScopingForms.form_of, Frames.Chain}
use Rattle.hir_scope.specs.ScopingForms as form
use Rattle.hir_scope.specs.OpenFrames.{open_frames, open_frames_of_calls, open_frames_of_form, open_frames_step}
use Rattle.hir_scope.specs.{Order.met_in_form, ChildContexts.ChildContext, ChildContexts.child_contexts}
use Rattle.hir_scope.specs.{ChildContexts.child_contexts_of_form}
use Rattle.hir_scope.specs.internal.ContextsUnder.{in_context, contexts_under, under_step, exprs_under}
use Rattle.hir_scope.proofs.ChildLemmas.{met_children, children_of_form, children_in, child_contexts_children}
use Rattle.hir_scope.proofs.MemberLemmas.{In, agree_in, in_contains, contains_in, in_flat_map, flat_map_in, in_map, map_in, in_filter}
use Rattle.hir_scope.proofs.MemberLemmas.{filter_in}
use Rattle.std.proofs.lemmas.Grind.{common_steps}

-- 1. The open frames of a node are given by those of its children, and what is under a context by what is under those of the children.

-- What agrees on the children of a node agrees on its child contexts

met_agree : {A : Type 0} (f g : NodeId → A) (s : Nodes) (n : NodeId) → AgreeOn f g (children_of s n) →
    AgreeOn f g (children (met_in_form (form_of s n)))
met_agree f g s n h =
    let met = children (met_in_form (form_of s n)) in
    let back = IsPermutation-sym (children_of s n) met (met_children s n) in
    agree_from_members f g met
    (λ x m. agree_in f g (children_of s n) h x
    (in_contains (children_of s n) x (Contains-permutation met (children_of s n) x back m)))

pub child_contexts_agree : {A : Type 0} (f g : NodeId → A) (s : Nodes) (n : NodeId) → AgreeOn f g (children_of s n) →
    AgreeOn f g (children_in (child_contexts s n))
unfolding child_contexts
child_contexts_agree f g s n h = subst (λ (ks : List NodeId). AgreeOn f g ks) (sym (children_of_form s (form_of s n))) (met_agree f g s n h)

-- Open frames

open_frames_agree : (f g : NodeId → Chain) (cs : List Call) → AgreeOn f g (children cs) → open_frames_of_calls f cs
    ≡ open_frames_of_calls g cs
open_frames_agree f g [] h = refl
open_frames_agree f g (OnExpr x ∷ cs) h = let r = open_frames_agree f g cs h.1 in let q = h.0 in cc
open_frames_agree f g (OnPat x ∷ cs) h = let r = open_frames_agree f g cs h.1 in let q = h.0 in cc
open_frames_agree f g (OnLifetime x ∷ cs) h = let r = open_frames_agree f g cs h in cc
open_frames_agree f g (_ ∷ cs) h = let r = open_frames_agree f g cs h.1 in cc

form_reads : (s : Nodes) (f g : NodeId → Chain) (x : ScopingForm) → AgreeOn f g (children (met_in_form x)) →
    open_frames_of_form s f x ≡ open_frames_of_form s g x
form_reads s f g (form.If c y o) h = open_frames_agree f g (opt e o) h.1.1
form_reads s f g (form.Let pat x) h = let q = h.0 in let r = h.1.0 in cc
form_reads s f g (form.Match x arms) h = h.0
form_reads s f g (form.Assignment target value) h = h.1.0
form_reads s f g (form.InTurn cs) h = open_frames_agree f g cs h
form_reads s f g _ h = refl

open_frames_depends : (s : Nodes) → DependsOnChildren s (open_frames_step s)
open_frames_depends s f g n h = form_reads s f g (form_of s n) (met_agree f g s n h)

-- the open frames of a node are given by those of its children
pub open_frames_at : (s : Nodes) → RankDecreases s → (n : NodeId) → Has s n → open_frames s n
    ≡ open_frames_of_form s (open_frames s) (form_of s n)
unfolding open_frames
open_frames_at s fall n h = fold_down_at s fall (open_frames_step s) [] (open_frames_depends s) n

-- Places

child_contexts_read : (f g : NodeId → Chain → Chain → List InContext) (h k : Chain) (xs : List ChildContext) →
    AgreeOn f g (map (λ (x : ChildContext). x.child) xs) →
    flat_map (λ (at : InContext). f at.node at.scope at.const_scope) (map (child_in_context h k) xs)
    ≡ flat_map (λ (at : InContext). g at.node at.scope at.const_scope) (map (child_in_context h k) xs)
child_contexts_read f g h k [] agree = refl
child_contexts_read f g h k (x ∷ xs) agree = search (rules, child_contexts_read f g h k xs agree.1)

under_asks : (s : Nodes) → DependsOnChildren s (under_step s)
under_asks s f g n agree = grind (arith, common_steps, fun_ext, child_contexts_read, child_contexts_agree f g s n agree)

-- what is under a place is the place, and what is under the places of the children
pub under_at : (s : Nodes) → RankDecreases s → (at : InContext) → Has s at.node → contexts_under s at
    ≡ at ∷ flat_map (contexts_under s) (children_in_context s at)
unfolding contexts_under
under_at s fall at h = grind (arith, common_steps, fold_down_at, under_asks s)

-- The expressions under a place

exprs_under_at : (s : Nodes) → RankDecreases s → (at : InContext) → Has s at.node → exprs_under s (at ∷ [])
    ≡ filter (λ (q : InContext). is_expr q.node)
    (at ∷ flat_map (contexts_under s)
    (map (child_in_context at.scope at.const_scope) (child_contexts_of_form s (form_of s at.node))))
unfolding exprs_under child_contexts
exprs_under_at s fall at h = ap (filter (λ (q : InContext). is_expr q.node)) (append-nil (contexts_under s at) ∙ under_at s fall at h)

pub exprs_under_expr : (s : Nodes) → RankDecreases s → (id : ℕ) (scope const_scope : Chain) → Has s (NodeId.Expr id) →
    exprs_under s (in_context (NodeId.Expr id) scope const_scope ∷ [])
    ≡ in_context (NodeId.Expr id) scope const_scope ∷ exprs_under s
    (map (child_in_context scope const_scope) (child_contexts_of_form s (form_of s (NodeId.Expr id))))
unfolding exprs_under
exprs_under_expr s fall id scope const_scope h = exprs_under_at s fall (in_context (NodeId.Expr id) scope const_scope) h

pub exprs_under_pat : (s : Nodes) → RankDecreases s → (id : ℕ) (scope const_scope : Chain) → Has s (NodeId.Pat id) →
    exprs_under s (in_context (NodeId.Pat id) scope const_scope ∷ [])
    ≡ exprs_under s (map (child_in_context scope const_scope) (child_contexts_of_form s (form_of s (NodeId.Pat id))))
unfolding exprs_under
exprs_under_pat s fall id scope const_scope h = exprs_under_at s fall (in_context (NodeId.Pat id) scope const_scope) h

pub exprs_under_type : (s : Nodes) → RankDecreases s → (id : ℕ) (scope const_scope : Chain) →
    Has s (NodeId.TypeRef id) → exprs_under s (in_context (NodeId.TypeRef id) scope const_scope ∷ [])
    ≡ exprs_under s (map (child_in_context scope const_scope)
    (child_contexts_of_form s (form_of s (NodeId.TypeRef id))))
unfolding exprs_under
exprs_under_type s fall id scope const_scope h = exprs_under_at s fall (in_context (NodeId.TypeRef id) scope const_scope) h

-- 2. A node occurs in a context exactly where it is reached.

module _ {X Y : Type 0} (f : X → Y) where
  pub mapped : (xs : List X) (x : X) → Contains xs x → Contains (map f xs) (f x)
  mapped xs x c = contains_in (map f xs) (f x) (map_in f x xs (in_contains xs x c))

  unmapped : (xs : List X) (y : Y) → Contains (map f xs) y → (x : X) × Contains xs x × (f x ≡ y)
  unmapped xs y c = let r = in_map f y xs (in_contains (map f xs) y c) in (r.0, contains_in xs r.0 r.1, r.2)

module _ (s : Nodes) where
  -- a child of a node with a place has a place among those of its children
  child_of_context_is : (at : InContext) (k : NodeId) → Contains (children_of s at.node) k →
      (q : InContext) × Contains (children_in_context s at) q × (q.node ≡ k)
  child_of_context_is at k c =
      let r =
      unmapped (λ (x : ChildContext). x.child) (child_contexts s at.node) k
      (Contains-permutation (children_of s at.node) (children_in (child_contexts s at.node)) k
      (child_contexts_children s at.node) c) in (
        child_in_context at.scope at.const_scope r.0,
        mapped (child_in_context at.scope at.const_scope)
            (child_contexts s at.node) r.0 r.1,
        r.2,
      )

  -- and what has one there is a child
  pub child_of_context : (at q : InContext) → Contains (children_in_context s at) q → Contains (children_of s at.node) q.node
  child_of_context at q c =
      let r = unmapped (child_in_context at.scope at.const_scope) (child_contexts s at.node) q c in
      let in_range = mapped (λ (x : ChildContext). x.child) (child_contexts s at.node) r.0 r.1 in
      subst (Contains (children_of s at.node)) (ap (λ (p : InContext). p.node) r.2)
      (Contains-permutation (children_in (child_contexts s at.node)) (children_of s at.node) r.0.child
      (IsPermutation-sym (children_of s at.node) (children_in (child_contexts s at.node)) (child_contexts_children s at.node)) in_range)

  module _ (entry_nodes : List InContext) where
    -- the descendants of a node that occurs in a context occur in one
    occurs_under : (n r : NodeId) → Under s n r → (at : InContext) → at.node ≡ r → Occurs s entry_nodes at →
        (q : InContext) × Occurs s entry_nodes q × (q.node ≡ n)
    occurs_under n r itself at e h = (at, h, e)
    occurs_under n r (below {k = k} c u) at e h =
        let p = child_of_context_is at k (subst (λ m. Contains (children_of s m) k) (sym e) c) in
        occurs_under n k u p.0 p.2 (child h p.1)

    pub reached_occurs : (n : NodeId) → IsReached s (map (λ (at : InContext). at.node) entry_nodes) n →
        (at : InContext) × Occurs s entry_nodes at × (at.node ≡ n)
    reached_occurs n h =
        let t = unmapped (λ (at : InContext). at.node) entry_nodes h.0 h.1 in
        occurs_under n h.0 h.2 t.0 t.2 (entry_node t.1)

    pub occurs_reached : (at : InContext) → Occurs s entry_nodes at → IsReached s (map (λ (p : InContext). p.node) entry_nodes) at.node
    occurs_reached at (entry_node c) = (at.node, mapped (λ (p : InContext). p.node) entry_nodes at c, itself)
    occurs_reached at (child {parent = parent} h c) = search (rules, under_more, child_of_context, occurs_reached parent h)

-- 3. The list of descendants of some entry nodes has what occurs in a context below them.

-- the nodes of entry nodes exist
pub contexts_in_range : (s : Nodes) (entry_nodes : List InContext) (nodes : List NodeId) →
    map (λ (p : InContext). p.node) entry_nodes ≡ nodes → ((n : NodeId) → Contains nodes n → Has s n) →
    (p : InContext) → In p entry_nodes → Has s p.node
contexts_in_range s entry_nodes nodes same in_range p i = search (rules, contains_in, In, map_in)

module _ (s : Nodes) (fall : RankDecreases s) where
  -- a child in its context: the child exists, and has a lower rank
  pub child_in_range : (p q : InContext) → Has s p.node → In q (children_in_context s p) → Has s q.node
  child_in_range p q h i = fall.in_range p.node h q.node (child_of_context s p q (contains_in (children_in_context s p) q i))

  pub child_lower : (p q : InContext) → Has s p.node → In q (children_in_context s p) → rank s q.node < rank s p.node
  child_lower p q h i = fall.lower p.node h q.node (child_of_context s p q (contains_in (children_in_context s p) q i))

  under_itself : (p : InContext) → Has s p.node → In p (contexts_under s p)
  under_itself p h = subst (In p) (sym (under_at s fall p h)) (inl refl)

  -- the children of a listed place are listed
  under_closed : (n : ℕ) (p q r : InContext) → rank s p.node < n → Has s p.node → In q (contexts_under s p) →
      In r (children_in_context s q) → In r (contexts_under s p)
  under_closed zero p q r l h i j = absurd (omega (arith, l))
  under_closed (suc n) p q r l h i j =
      let at = under_at s fall p h in
      subst (In r) (sym at)
      (inr (⊎_elim
      (λ e. let k = subst (λ (x : InContext). In r (children_in_context s x)) (sym e) j in
      in_flat_map (contexts_under s) r r (children_in_context s p) k (under_itself r (child_in_range p r h k)))
      (λ k. let d = flat_map_in (contexts_under s) q (children_in_context s p) k in
      let low = child_lower p d.0 h d.1 in
      in_flat_map (contexts_under s) d.0 r (children_in_context s p) d.1
      (under_closed n d.0 q r (omega (arith, low, l)) (child_in_range p d.0 h d.1) d.2 j))
      (subst (In q) at i)))

  module _ (entry_nodes : List InContext) (in_range : (p : InContext) → In p entry_nodes → Has s p.node) where
    pub occurs_in_range : (p : InContext) → Occurs s entry_nodes p → Has s p.node
    occurs_in_range p (entry_node c) = in_range p (in_contains entry_nodes p c)
    occurs_in_range p (child {parent = q} h c) = child_in_range q p (occurs_in_range q h) (in_contains (children_in_context s q) p c)

    down_occurs : (n : ℕ) (p r : InContext) → rank s p.node < n → Occurs s entry_nodes p → In r (contexts_under s p) →
        Occurs s entry_nodes r
    down_occurs zero p r l h i = absurd (omega (arith, l))
    down_occurs (suc n) p r l h i =
        let has = occurs_in_range p h in
        ⊎_elim (λ e. subst (Occurs s entry_nodes) e h)
        (λ k. let d = flat_map_in (contexts_under s) r (children_in_context s p) k in
        let low = child_lower p d.0 has d.1 in
        down_occurs n d.0 r (omega (arith, low, l)) (child h (contains_in (children_in_context s p) d.0 d.1)) d.2)
        (subst (In r) (under_at s fall p has) i)

    pub listed_occurs : (r : InContext) → In r (flat_map (contexts_under s) entry_nodes) → Occurs s entry_nodes r
    listed_occurs r i =
        let d = flat_map_in (contexts_under s) r entry_nodes i in
        down_occurs (suc (rank s d.0.node)) d.0 r (omega arith) (entry_node (contains_in entry_nodes d.0 d.1)) d.2

    pub occurs_listed : (r : InContext) → Occurs s entry_nodes r → In r (flat_map (contexts_under s) entry_nodes)
    occurs_listed r (entry_node c) = search (rules, in_contains, in_flat_map, under_itself)
    occurs_listed r (child {parent = q} h c) =
        let d = flat_map_in (contexts_under s) q entry_nodes (occurs_listed q h) in
        in_flat_map (contexts_under s) d.0 r entry_nodes d.1
        (under_closed (suc (rank s d.0.node)) d.0 q r (omega arith) (in_range d.0 d.1) d.2 (in_contains (children_in_context s q) r c))

    -- the expressions that are listed are those that occur in a context
    pub exprs_stand : (r : InContext) → In r (exprs_under s entry_nodes) → Occurs s entry_nodes r
    unfolding exprs_under
    exprs_stand r i = listed_occurs r (filter_in (λ (x : InContext). is_expr x.node) r (flat_map (contexts_under s) entry_nodes) i).0

    pub standing_exprs : (r : InContext) (id : ℕ) → r.node ≡ NodeId.Expr id → Occurs s entry_nodes r → In r (exprs_under s entry_nodes)
    unfolding exprs_under
    standing_exprs r id e h = search (rules, in_filter, occurs_listed)
