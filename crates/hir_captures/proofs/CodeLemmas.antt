-- The code of a closure, and the chains of what is in it.
use Rattle.std.proofs.Common.{◌≡◌, ◌<◌, ℕ, List, [], ◌∷◌, ◌++◌, Option, Some, None, map, refl, sym, ap, ◌∙◌, append_assoc, Contains, rules}
use Rattle.std.proofs.Common.{arith, subst, zero, suc, length, length-append, ◌-◌}
use Rattle.std.proofs.Math.Path.{fun_ext}
use Rattle.std.proofs.Math.Seq.{take-append_seam}
use Rattle.std.proofs.lemmas.List.Sorted.{IsPermutation-sym, Contains-permutation}
use Rattle.std.specs.List.{flat_map, slice_get, AllByRecursion}
use Rattle.std.specs.Prelude.{filter_map}
use Rattle.hir_base.specs.declared.hygiene.SyntaxContext.{SyntaxContext}
use Rattle.hir_node.specs.ChildCalls.{Call, OnExpr, OnPat}
use Rattle.hir_node.specs.declared.{expr.Expr.Expr, node_id.NodeId.NodeId, pat.Pat.Pat}
use Rattle.hir_validate.specs.Recursion.{rank, RankDecreases, AgreeOn, DependsOnChildren}
use Rattle.hir_validate.specs.Nodes.{Has, children_of}
use Rattle.hir_validate.specs.declared.node_arenas.Nodes.{Nodes}
use Rattle.hir_validate.proofs.RecursionLemmas.{fold_down_at, parent_in_range}
use Rattle.hir_store_core.specs.{Contents.Contents, Under.IsReached}
use Rattle.hir_scope.specs.Chains.{InContext, child_in_context, on_base, Occurs, child, HasChain, within_own}
use Rattle.hir_scope.specs.ScopingForms.{form_of, ScopingForm, form_at, expr_form}
use Rattle.hir_scope.specs.ScopingForms as form
use Rattle.hir_scope.specs.{Frames.Chain, PathResolution.local_name, Order.met_in_form, Resolution.resolve}
use Rattle.hir_scope.proofs.ResolveLemmas.{resolve_append}
use Rattle.hir_scope.specs.ChildContexts.{Base, Scope, ConstScope, ChildContext, child_with_base, children_with_base, child_contexts}
use Rattle.hir_scope.specs.ChildContexts.{own_frame}
use Rattle.hir_scope.proofs.ChildLemmas.{children_in, child_contexts_children, child_contexts_follow}
use Rattle.hir_scope.proofs.UnderLemmas.{mapped, child_contexts_agree}
use Rattle.hir_captures.specs.Captures.{IsClosure, IsOn, IsCapturedBinding, EachCaptures, captured_binding, outer_entry, resolve_outside}
use Rattle.hir_captures.specs.Uses.{Spot, spot, in_code, of_pattern, child_code, assignment_at, code_step, code_under, Use, if_assignment}
use Rattle.hir_captures.specs.Uses.{use_of, expr_uses, pat_uses, spot_uses, uses_in}
use Rattle.hir_captures.specs.declared.tasks.Task.{Task}
use Rattle.hir_captures.specs.internal.Pending.{tasks_of, task_node, code_of, AreInRange}
use Rattle.std.proofs.lemmas.Grind.{common_steps}

-- 1. The code under a node is the node, and then the code of its children in the order of its child contexts: that of
-- the tasks that reading it puts.

-- The code under a node

abbrev pub Codes : Type 0
Codes = NodeId → Option ℕ → List Spot

module _ (f g : Codes) where
  child_contexts_read : (a : Option ℕ) (xs : List ChildContext) → AgreeOn f g (children_in xs) →
      flat_map (child_code f a) xs ≡ flat_map (child_code g a) xs
  child_contexts_read a [] h = refl
  child_contexts_read a (x ∷ xs) h = search (rules, child_contexts_read a xs h.1)

module _ (s : Nodes) where
  pub child_in_range : (n k : NodeId) → Contains (children_in (child_contexts s n)) k → Contains (children_of s n) k
  child_in_range n k m = search (rules, Contains-permutation, children_in, IsPermutation-sym, child_contexts_children)

  code_asks : DependsOnChildren s (code_step s)
  code_asks f g n h = grind (arith, common_steps, fun_ext, child_contexts_read, child_contexts_agree f g s n h)

  -- the code under a node is its step's, at the code under its children
  pub code_at : RankDecreases s → (n : NodeId) (a : Option ℕ) → code_under s n a ≡ code_step s (code_under s) n a
  unfolding code_under
  code_at fall n a = ap (λ (w : Option ℕ → List Spot). w a) (fold_down_at s fall (code_step s) (λ assignment. []) code_asks n)

-- The code of children, by their calls

abbrev call_code : Codes → Option ℕ → Call → List Spot
call_code f a (OnExpr id) = f (NodeId.Expr id) None
call_code f a (OnPat id) = f (NodeId.Pat id) a
call_code f a _ = []

module _ (f : Codes) (a : Option ℕ) where
  abbrev at_base : NodeId × Base → List Spot
  at_base k = in_code k.1 (f k.0 (of_pattern k.0 a))

  of_child_contexts : (xs : List ChildContext) → flat_map (child_code f a) xs ≡ flat_map at_base (map child_with_base xs)
  of_child_contexts [] = refl
  of_child_contexts (x ∷ xs) = ap (λ (ys : List Spot). child_code f a x ++ ys) (of_child_contexts xs)

  of_calls : (cs : List Call) → flat_map at_base (flat_map children_with_base cs) ≡ flat_map (call_code f a) cs
  of_calls [] = refl
  of_calls (OnExpr id ∷ cs) = ap (λ (ys : List Spot). f (NodeId.Expr id) None ++ ys) (of_calls cs)
  of_calls (OnPat id ∷ cs) = ap (λ (ys : List Spot). f (NodeId.Pat id) a ++ ys) (of_calls cs)
  of_calls (_ ∷ cs) = of_calls cs

  of_node : (s : Nodes) (n : NodeId) → flat_map (child_code f a) (child_contexts s n) ≡ flat_map (call_code f a) (met_in_form (form_of s n))
  of_node s n = search (rules, of_child_contexts, child_contexts_follow, of_calls)

-- the code of tasks is that of their calls
task_code : (s : Nodes) (a : Option ℕ) (cs : List Call) → code_of s (tasks_of a cs) ≡ flat_map (call_code (code_under s) a) cs
task_code s a [] = refl
task_code s a (OnExpr id ∷ cs) = ap (λ (xs : List Spot). code_under s (NodeId.Expr id) None ++ xs) (task_code s a cs)
task_code s None (OnPat id ∷ cs) = ap (λ (xs : List Spot). code_under s (NodeId.Pat id) None ++ xs) (task_code s None cs)
task_code s (Some a) (OnPat id ∷ cs) = ap (λ (xs : List Spot). code_under s (NodeId.Pat id) (Some a) ++ xs) (task_code s (Some a) cs)
task_code s a (_ ∷ cs) = task_code s a cs

-- reading a node leaves the code of its children
pub code_read : (s : Nodes) → RankDecreases s → (n : NodeId) (a : Option ℕ) → code_under s n a
    ≡ spot n a ∷ code_of s (tasks_of (assignment_at s n a) (met_in_form (form_of s n)))
code_read s fall n a =
    grind (
      arith,
      common_steps,
      code_at s fall n a,
      of_node (code_under s) (assignment_at s n a) s n,
      task_code s (assignment_at s n a) (met_in_form (form_of s n)),
    )

-- What tasks name exists

all_two : {X : Type 0} (P : X → Type 0) (xs ys : List X) → AllByRecursion P xs → AllByRecursion P ys → AllByRecursion P (xs ++ ys)
all_two P [] ys h k = k
all_two P (x ∷ xs) ys h k = (h.0, all_two P xs ys h.1 k)

-- the nodes of spots exist
abbrev HaveNodes : Nodes → List Spot → Type 0
HaveNodes s xs = AllByRecursion (λ (x : Spot). Has s x.node) xs

-- a node alone
abbrev itself : Codes
itself n a = spot n a ∷ []

child_contexts_in_range : (s : Nodes) (a : Option ℕ) (xs : List ChildContext) →
    ((k : NodeId) → Contains (children_in xs) k → Has s k) → HaveNodes s (flat_map (child_code itself a) xs)
child_contexts_in_range s a [] h = tt
child_contexts_in_range s a (x ∷ xs) h = at x.base (child_contexts_in_range s a xs (λ k m. h k (suc m.0, omega (arith, m.1), m.2))) where
  at : (b : Base) → HaveNodes s (flat_map (child_code itself a) xs) →
      HaveNodes s (in_code b (itself x.child (of_pattern x.child a)) ++ flat_map (child_code itself a) xs)
  at Scope rest = (h x.child (0, omega arith, refl), rest)
  at ConstScope rest = rest

tasks_in_range : (s : Nodes) (a : Option ℕ) (cs : List Call) → HaveNodes s (flat_map (call_code itself a) cs) → AreInRange s (tasks_of a cs)
tasks_in_range s a [] h = tt
tasks_in_range s a (OnExpr id ∷ cs) h = (h.0, tasks_in_range s a cs h.1)
tasks_in_range s None (OnPat id ∷ cs) h = (h.0, tasks_in_range s None cs h.1)
tasks_in_range s (Some a) (OnPat id ∷ cs) h = (h.0, tasks_in_range s (Some a) cs h.1)
tasks_in_range s a (_ ∷ cs) h = tasks_in_range s a cs h

-- the children of a node exist
pub children_in_range : (s : Nodes) → RankDecreases s → (n : NodeId) (a : Option ℕ) (rest : List Task) → Has s n →
    AreInRange s rest → AreInRange s (tasks_of a (met_in_form (form_of s n)) ++ rest)
children_in_range s fall n a rest h r =
    let have = child_contexts_in_range s a (child_contexts s n) (λ k m. fall.in_range n h k (child_in_range s n k m)) in
    all_two (λ (t : Task). Has s (task_node t)) (tasks_of a (met_in_form (form_of s n))) rest
    (tasks_in_range s a (met_in_form (form_of s n)) (subst (HaveNodes s) (of_node itself a s n) have)) r

-- 2. The code of a closure is on the closure's chain: the chains of its uses are some frames on it.

-- What is on a chain

-- a reached node has a place whose frames are some put on this chain
pub record StandsOn (s : Nodes) (entry_nodes : List InContext) (reached_from : List NodeId) (base : Chain) (n : NodeId) : Type 0 where
  pub at : InContext
  pub occurs : Occurs s entry_nodes at
  pub is_node : at.node ≡ n
  pub reached : IsReached s reached_from n
  pub on : IsOn base at.scope

module _ (s : Nodes) (entry_nodes : List InContext) (from : List NodeId) (base : Chain) where
  abbrev On : NodeId → Type 0
  On n = StandsOn s entry_nodes from base n

  abbrev TargetOn : Option ℕ → Type 0
  TargetOn None = Unit {0}
  TargetOn (Some assignment) = On (NodeId.Expr assignment)

  abbrev SpotOn : Spot → Type 0
  SpotOn x = On x.node × TargetOn x.assignment

  abbrev pub SpotsOn : List Spot → Type 0
  SpotsOn xs = AllByRecursion SpotOn xs

  target_of : (n : NodeId) (a : Option ℕ) → TargetOn a → TargetOn (of_pattern n a)
  target_of (NodeId.Pat id) a t = t
  target_of _ a t = tt

  if_on : (id : ℕ) (o : Option Expr) → On (NodeId.Expr id) → TargetOn (if_assignment id o)
  if_on id (Some (Expr.Assignment target value)) on = on
  if_on id _ on = tt

  assignment_on : (n : NodeId) (a : Option ℕ) → On n → TargetOn a → TargetOn (assignment_at s n a)
  assignment_on (NodeId.Expr id) a on t = if_on id (slice_get s.exprs id) on
  assignment_on (NodeId.Pat id) a on t = t
  assignment_on (NodeId.TypeRef id) a on t = tt

  children_on : (f : Codes) (a : Option ℕ) → TargetOn a → (xs : List ChildContext) →
      ((x : ChildContext) → Contains xs x → x.base ≡ Scope → (b : Option ℕ) → TargetOn b → SpotsOn (f x.child b)) →
      SpotsOn (flat_map (child_code f a) xs)
  children_on f a t [] h = tt
  children_on f a t (x ∷ xs) h =
      all_two SpotOn (child_code f a x) (flat_map (child_code f a) xs) (one x.base refl)
      (children_on f a t xs (λ y m. h y (suc m.0, omega (arith, m.1), m.2))) where
        one : (b : Base) → x.base ≡ b → SpotsOn (in_code b (f x.child (of_pattern x.child a)))
        one Scope e = h x (0, omega arith, refl) e (of_pattern x.child a) (target_of x.child a t)
        one ConstScope e = tt

  module _ (fall : RankDecreases s) (go : (n k : NodeId) → IsReached s from n → Contains (children_of s n) k → IsReached s from k) where
    -- a child in the code is on it too
    child_on : (n : NodeId) → On n → (x : ChildContext) → Contains (child_contexts s n) x → x.base ≡ Scope → On x.child
    child_on n on x m scope =
        let at = on.at in
        let place = child_in_context at.scope at.const_scope in
        record {
          at = place x;
          occurs = child on.occurs
              (mapped place (child_contexts s at.node) x
              (subst (λ (k : NodeId). Contains (child_contexts s k) x) (sym on.is_node) m));
          is_node = refl;
          reached = go n x.child on.reached (child_in_range s n x.child (mapped (λ (y : ChildContext). y.child) (child_contexts s n) x m));
          on = (
            x.frames ++ on.on.0,
            ap (λ (b : Base). x.frames ++ on_base b at.scope (x.const_frames ++ at.const_scope)) scope
                ∙ (ap (λ (c : Chain). x.frames ++ c) on.on.1 ∙ sym (append_assoc x.frames on.on.0 base)),
          );
        }

    code_on : (d : ℕ) (n : NodeId) (a : Option ℕ) → rank s n < d → On n → TargetOn a → SpotsOn (code_under s n a)
    code_on zero n a l on t = absurd (omega (arith, l))
    code_on (suc d) n a l on t =
        subst SpotsOn (sym (code_at s fall n a)) (
          (on, t),
          children_on (code_under s) (assignment_at s n a) (assignment_on n a on t) (child_contexts s n) (λ x m scope b u.
              let among = child_in_range s n x.child (mapped (λ (y : ChildContext). y.child) (child_contexts s n) x m) in
              let low = fall.lower n (parent_in_range s n x.child among) x.child among in
              code_on d x.child b (omega (arith, l, low)) (child_on n on x m scope) u),
        )

    pub all_code_on : (n : NodeId) → On n → SpotsOn (code_under s n None)
    all_code_on n on = code_on (suc (rank s n)) n None (omega arith) on tt

  -- What its uses ask

  abbrev UseOn : Use → Type 0
  UseOn u = On (NodeId.Expr u.expr)

  abbrev pub UsesOn : List Use → Type 0
  UsesOn us = AllByRecursion UseOn us

  one_use : (h : SyntaxContext) (id : ℕ) (o : Option (List ℕ)) → On (NodeId.Expr id) → UsesOn (use_of h id o)
  one_use h id None on = tt
  one_use h id (Some name) on = (on, tt)

  of_expr : (h : SyntaxContext) (id : ℕ) (o : Option Expr) → On (NodeId.Expr id) → UsesOn (expr_uses h id o)
  of_expr h id (Some (Expr.Path path)) on = one_use h id (local_name path) on
  of_expr h id _ on = tt

  of_pat : (h : SyntaxContext) (a : Option ℕ) (o : Option Pat) → TargetOn a → UsesOn (pat_uses h a o)
  of_pat h (Some a) (Some (Pat.Path path)) t = one_use h a (local_name path) t
  of_pat h _ _ t = tt

pub uses_on : (c : Contents) (entry_nodes : List InContext) (from : List NodeId) (base : Chain) (xs : List Spot) →
    SpotsOn c.nodes entry_nodes from base xs → UsesOn c.nodes entry_nodes from base (flat_map (spot_uses c) xs)
uses_on c entry_nodes from base [] h = tt
uses_on c entry_nodes from base (x ∷ xs) h = search (rules, all_two, of_expr, of_pat, uses_on c entry_nodes from base xs h.1)

-- What a use captures, by lengths

module _ (n : List ℕ) (h : SyntaxContext) where
  -- an entry that is found, and not further in, is found along the outer frames
  found_outside : (between own : Chain) → outer_entry (resolve between n h) (resolve (between ++ own) n h)
      ≡ outer_entry (resolve between n h) (resolve own n h)
  found_outside between own = search (rules, resolve_append)

  by_append : (between own : Chain) → resolve_outside (length (between ++ own) - length own) (between ++ own) n h
      ≡ outer_entry (resolve between n h) (resolve own n h)
  by_append between own = grind (arith, common_steps, length-append, take-append_seam, found_outside)

  by_length : (chain between own : Chain) → chain ≡ between ++ own →
      resolve_outside (length chain - length own) chain n h ≡ outer_entry (resolve between n h) (resolve own n h)
  by_length chain between own e = ap (λ (c : Chain). resolve_outside (length c - length own) c n h) e ∙ by_append between own

by_its_length : (own chain : Chain) (u : Use) (captured : Option ℕ) → IsCapturedBinding own chain u captured →
    captured ≡ resolve_outside (length chain - length own) chain u.name u.hygiene
by_its_length own chain u captured k = k.is ∙ sym (by_length u.name u.hygiene chain k.between own k.on)

each_by_length : (chain : ℕ → Chain) (closure : ℕ) (us : List Use) →
    AllByRecursion (λ (u : Use). IsOn (chain closure) (chain u.expr)) us →
    EachCaptures chain closure (captured_binding chain closure) us
each_by_length chain closure [] h = tt
each_by_length chain closure (u ∷ us) h = search (rules, by_length, each_by_length chain closure us h.1)

-- The chains of uses

-- a closure has no frame of its own
no_own : (o : Option Expr) → IsClosure o → (scope : Chain) → within_own (form_at expr_form o) scope ≡ scope
no_own (Some (Expr.Closure args arg_types ret_type body kind capture)) is scope = refl
no_own _ is scope = absurd is

own_on : (f : ScopingForm) (scope : Chain) → IsOn scope (within_own f scope)
own_on (form.Block id label statements tail) scope = (own_frame id label ∷ [], refl)
own_on _ scope = ([], refl)

is_on_two : (a b c : Chain) → IsOn a b → IsOn b c → IsOn a c
is_on_two a b c p q = (q.0 ++ p.0, q.1 ∙ (ap (λ (x : Chain). q.0 ++ x) p.1 ∙ sym (append_assoc q.0 p.0 a)))

module _ (c : Contents) (entry_nodes : List InContext) (from : List NodeId) (fall : RankDecreases c.nodes)
    (go : (n k : NodeId) → IsReached c.nodes from n → Contains (children_of c.nodes n) k → IsReached c.nodes from k)
    (one : (expr : ℕ) (x y : Chain) → HasChain c.nodes entry_nodes expr x → HasChain c.nodes entry_nodes expr y → x ≡ y)
    (closure : ℕ) (is : IsClosure (slice_get c.nodes.exprs closure)) (reached : IsReached c.nodes from (NodeId.Expr closure)) where
  abbrev Chains : Type 0
  Chains = ℕ → Chain

  abbrev AreTheirs : Chains → Type 0
  AreTheirs chain = (expr : ℕ) → IsReached c.nodes from (NodeId.Expr expr) → HasChain c.nodes entry_nodes expr (chain expr)

  all_on : (chain : Chains) → AreTheirs chain → UsesOn c.nodes entry_nodes from (chain closure) (uses_in c closure)
  unfolding uses_in
  all_on chain are =
      let has = are closure reached in
      let same : chain closure ≡ has.at.scope = has.is_chain ∙ no_own (slice_get c.nodes.exprs closure) is has.at.scope in
      let on : StandsOn c.nodes entry_nodes from (chain closure) (NodeId.Expr closure) =
      record { at = has.at; occurs = has.occurs; is_node = has.is_node; reached = reached; on = ([], sym same) } in
      uses_on c entry_nodes from (chain closure) (code_under c.nodes (NodeId.Expr closure) None)
      (all_code_on c.nodes entry_nodes from (chain closure) fall go (NodeId.Expr closure) on)

  chains_on : (chain : Chains) → AreTheirs chain → (us : List Use) →
      UsesOn c.nodes entry_nodes from (chain closure) us →
      AllByRecursion (λ (u : Use). IsOn (chain closure) (chain u.expr)) us
  chains_on chain are [] h = tt
  chains_on chain are (u ∷ us) h =
      let x = h.0 in
      let f = form_of c.nodes (NodeId.Expr u.expr) in
      let same : chain u.expr ≡ within_own f x.at.scope =
      one u.expr (chain u.expr) (within_own f x.at.scope) (are u.expr x.reached)
      (record { at = x.at; occurs = x.occurs; is_node = x.is_node; is_chain = refl }) in (
        subst (IsOn (chain closure)) (sym same)
            (is_on_two (chain closure) x.at.scope (within_own f x.at.scope) x.on (own_on f x.at.scope)),
        chains_on chain are us h.1,
      )

  -- the chain of each use is some frames on the closure's
  pub uses_stand_on : (chain : Chains) → AreTheirs chain →
      AllByRecursion (λ (u : Use). IsOn (chain closure) (chain u.expr)) (uses_in c closure)
  uses_stand_on chain are = chains_on chain are (uses_in c closure) (all_on chain are)

  -- each use captures what lengths say
  pub all_by_length : (chain : Chains) → AreTheirs chain → EachCaptures chain closure (captured_binding chain closure) (uses_in c closure)
  all_by_length chain are = each_by_length chain closure (uses_in c closure) (uses_stand_on chain are)

  -- they capture the same by any chains
  same_captures : (f g : Chains) → AreTheirs f → AreTheirs g → f closure ≡ g closure →
      (a d : Use → Option ℕ) (us : List Use) → UsesOn c.nodes entry_nodes from (f closure) us →
      EachCaptures f closure a us → EachCaptures g closure d us → filter_map a us ≡ filter_map d us
  same_captures f g p q e a d [] h k m = refl
  same_captures f g p q e a d (u ∷ us) h k m =
      grind (
        arith,
        common_steps,
        by_its_length (f closure) (f u.expr) u (a u) k.0,
        by_its_length (g closure) (g u.expr) u (d u) m.0,
        same_captures f g p q e a d us h.1 k.1 m.1,
      )

  pub one_list : (f g : Chains) → AreTheirs f → AreTheirs g → (a d : Use → Option ℕ) →
      EachCaptures f closure a (uses_in c closure) → EachCaptures g closure d (uses_in c closure) →
      filter_map a (uses_in c closure) ≡ filter_map d (uses_in c closure)
  one_list f g p q a d k m = search (rules, same_captures, all_on)
