-- How each task moves a walk on.
use Rattle.std.proofs.Common.{◌≡◌, ℕ, suc, ◌<◌, List, [], ◌∷◌, ◌++◌, Option, Some, None, length, map, refl, sym, subst, arith, Contains, rules}
use Rattle.std.proofs.Common.{ap, ◌∙◌, ◌+◌}
use Rattle.std.proofs.lemmas.List.{Concat.flat_map-append, Elements.All-nil, Elements.All-cons}
use Rattle.std.proofs.lemmas.List.Sorted.{IsPermutation-sym, Contains-permutation}
use Rattle.std.specs.List.{All, flat_map, sum_by, slice_get}
use Rattle.hir_node.specs.ChildCalls.{Call, OnLifetime, e, p, t, opt, children, pat_calls}
use Rattle.hir_node.specs.declared.expr_types.{Item.Item, MatchArm.MatchArm, Statement.Statement}
use Rattle.hir_node.specs.declared.{node_id.NodeId.NodeId, pat.Pat.Pat, type_ref.TypeRef.TypeRef}
use Rattle.hir_validate.specs.{Recursion.RankDecreases, declared.node_arenas.Nodes.Nodes, Nodes.Has, Nodes.children_of}
use Rattle.hir_scope.specs.Chains.{InContext, child_in_context}
use Rattle.hir_scope.specs.ScopingForms.{ScopingForm, form_of, form_at, pat_form, type_form}
use Rattle.hir_scope.specs.ScopingForms as form
use Rattle.hir_scope.specs.Frames.{Chain, frame, Frame, of_kind, empty}
use Rattle.hir_scope.specs.OpenFrames.{open_frames, open_frames_of_form}
use Rattle.hir_scope.specs.Order.{met_in_closure, met_in_form, met_in_arm}
use Rattle.hir_scope.specs.{Scopes.frame_of, ChildContexts.child_contexts, ChildContexts.child_contexts_of_form}
use Rattle.hir_scope.specs.declared.{scope.ScopeKind.ScopeKind, tasks.CurrentScopes.CurrentScopes, tasks.Task.Task, walk.Walk.Walk}
use Rattle.hir_scope.specs.internal.WalkState.{Over, Exceeds, about, AreInRange, LeavesWithin, WalkState, walk_state, state, with_next}
use Rattle.hir_scope.specs.internal.WalkState.{chain_of, frames_of_scope, frames_of_const_scope, future_of, IsReady, total, tasks_weight}
use Rattle.hir_scope.specs.internal.WalkState.{node_frames, weight_left, node_turns, task_turns, turns_left, Opens, OpensScopes, Step}
use Rattle.hir_scope.specs.internal.Pending.{both, tasks_of, arm_task, one_arm, guarded_task, statement_tasks, form_tasks, task_children}
use Rattle.hir_scope.specs.internal.Pending.{leave, opened_frames, opened_const_frames, future, arm_with, task_frames}
use Rattle.hir_scope.specs.internal.ContextsUnder.{in_context, exprs_under}
use Rattle.hir_scope.proofs.CountLemmas.{left_cons, weight_met, turns_met}
use Rattle.hir_scope.proofs.FutureLemmas.{future_form, turn_bare, turn_ended, future_arm_task}
use Rattle.hir_scope.proofs.ChildLemmas.{children_of_form, children_in, child_contexts_children, about_form}
use Rattle.hir_scope.proofs.MovingLemmas.{over_exceeds, at, opened_none, moves_opened, moves_still}
use Rattle.hir_scope.proofs.UnderLemmas.{open_frames_at, exprs_under_expr, exprs_under_pat, exprs_under_type}
use Rattle.std.proofs.lemmas.Grind.{common_steps}

-- 1. What the tasks of a node name exists: the node's children, and the scopes that are taken back.

-- Nodes

module _ (s : Nodes) where
  pub in_range_all : (ns : List NodeId) → ((k : NodeId) → Contains ns k → Has s k) → AreInRange s ns
  in_range_all [] h = tt
  in_range_all (n ∷ ns) h = (h n (0, omega arith, refl), in_range_all ns (λ k m. h k (suc m.0, omega (arith, m.1), m.2)))

  pub in_range_join : (ns ms : List NodeId) → AreInRange s ns → AreInRange s ms → AreInRange s (ns ++ ms)
  in_range_join [] ms h k = k
  in_range_join (n ∷ ns) ms h k = (h.0, in_range_join ns ms h.1 k)

  pub in_range_parts : (ns ms : List NodeId) → AreInRange s (ns ++ ms) → AreInRange s ns × AreInRange s ms
  in_range_parts [] ms h = (tt, h)
  in_range_parts (n ∷ ns) ms h = let r = in_range_parts ns ms h.1 in ((h.0, r.0), r.1)

  -- the children of a node that exists
  pub children_in_range : RankDecreases s → (n : NodeId) → Has s n → AreInRange s (children (met_in_form (form_of s n)))
  unfolding child_contexts
  children_in_range fall n h =
      subst (AreInRange s) (children_of_form s (form_of s n))
      (in_range_all (children_in (child_contexts s n)) (λ k m. fall.in_range n h k
      (Contains-permutation (children_in (child_contexts s n)) (children_of s n) k
      (IsPermutation-sym (children_of s n) (children_in (child_contexts s n)) (child_contexts_children s n)) m)))

  pats_in_range : (ps : List ℕ) → AreInRange s (children (flat_map p ps)) → AreInRange s (map NodeId.Pat ps)
  pats_in_range [] h = tt
  pats_in_range (x ∷ ps) h = (h.0, pats_in_range ps h.1)

  pub all_in_range : (ps : List ℕ) → AreInRange s (map NodeId.Pat ps) → All (λ p. p < length s.pats) ps
  all_in_range [] h = All-nil (λ p. p < length s.pats)
  all_in_range (x ∷ ps) h = All-cons (λ p. p < length s.pats) x ps h.0 (all_in_range ps h.1)

  -- the patterns that a closure binds
  pub closure_pats : (types : List (Option ℕ)) (ret : Option ℕ) (args : List ℕ) (body : ℕ) →
      AreInRange s (children (met_in_closure types ret args body)) → AreInRange s (map NodeId.Pat args)
  closure_pats types ret args body all = search (rules, in_range_parts, flat_map-append, pats_in_range)

  -- what is inside a node, and then what was known before
  pub known_met : RankDecreases s → (a : CurrentScopes) (n : NodeId) (ts : List Task) → Has s n →
      AreInRange s (about ts) → AreInRange s (about (form_tasks a (form_of s n) ++ ts))
  known_met fall a n ts h k = search (rules, flat_map-append, in_range_join, about_form, children_in_range)

-- Scopes that are taken back

module _ (n : ℕ) where
  leaves_join : (us ts : List Task) → LeavesWithin n us → LeavesWithin n ts → LeavesWithin n (us ++ ts)
  leaves_join [] ts h l = l
  leaves_join (Task.Root id ∷ us) ts h l = (h.0, leaves_join us ts h.1 l)
  leaves_join (Task.Leave a b ∷ us) ts h l = (h.0, h.1, leaves_join us ts h.2 l)
  leaves_join (_ ∷ us) ts h l = leaves_join us ts h l

  pub leaves_calls : (cs : List Call) (ts : List Task) → LeavesWithin n ts → LeavesWithin n (tasks_of cs ++ ts)
  leaves_calls [] ts l = l
  leaves_calls (OnLifetime x ∷ cs) ts l = leaves_calls cs ts l
  leaves_calls (_ ∷ cs) ts l = leaves_calls cs ts l

  leaves_statement : (x : Statement) → LeavesWithin n (statement_tasks x)
  leaves_statement (Statement.Let pat ty x y) = leaves_calls (opt t ty ++ opt e x ++ opt e y) (Task.Bound pat ∷ []) tt
  leaves_statement (Statement.Expr x semi) = tt
  leaves_statement (Statement.Item (Item.MacroDef id)) = tt
  leaves_statement (Statement.Item Item.Other) = tt

  leaves_statements : (xs : List Statement) → LeavesWithin n (flat_map statement_tasks xs)
  leaves_statements [] = tt
  leaves_statements (x ∷ xs) = leaves_join (statement_tasks x) (flat_map statement_tasks xs) (leaves_statement x) (leaves_statements xs)

  leaves_arm : (pat expr : ℕ) (guard : Option ℕ) (ts : List Task) → LeavesWithin n ts → LeavesWithin n (guarded_task pat expr guard ∷ ts)
  leaves_arm pat expr None ts l = l
  leaves_arm pat expr (Some guard) ts l = l

  leaves_arms : (arms : List MatchArm) (ts : List Task) → LeavesWithin n ts → LeavesWithin n (flat_map one_arm arms ++ ts)
  leaves_arms [] ts l = l
  leaves_arms (arm ∷ arms) ts l = leaves_arm arm.pat arm.expr arm.guard (flat_map one_arm arms ++ ts) (leaves_arms arms ts l)

  pub leaves_met : (a : CurrentScopes) (x : ScopingForm) (ts : List Task) → a.scope < n → a.const_scope < n →
      LeavesWithin n ts → LeavesWithin n (form_tasks a x ++ ts)
  leaves_met a (form.If c y f) ts h k l = (h, k, leaves_calls (opt e f) ts l)
  leaves_met a (form.Let pat x) ts h k l = l
  leaves_met a (form.Block id label xs tail) ts h k l = search (rules, leaves_join, leaves_statements, leaves_calls)
  leaves_met a (form.Loop label body) ts h k l = (h, k, l)
  leaves_met a (form.Closure types ret args body) ts h k l = search (rules, leaves_join, leaves_calls)
  leaves_met a (form.Match x arms) ts h k l = leaves_arms arms ts l
  leaves_met a (form.Assignment target value) ts h k l = (h, k, l)
  leaves_met a (form.PatternType ty pat) ts h k l = (h, k, l)
  leaves_met a (form.InTurn cs) ts h k l = leaves_calls cs ts l

-- 2. A task that is done leaves what is still to do as it was, less the expression that is met.

module _ (s : Nodes) (fall : RankDecreases s) (chain : ℕ → Chain) where
  -- what is inside a node of this form
  abbrev inside : Chain → Chain → ScopingForm → List InContext
  inside h k x = exprs_under s (map (child_in_context h k) (child_contexts_of_form s x))

  left_open : (n : NodeId) (h k : Chain) (ts : List Task) → Has s n → let x = form_of s n in
      inside h k x ++ future s chain (open_frames s n ++ h) k ts
      ≡ inside h k x ++ future s chain (open_frames_of_form s (open_frames s) x ++ h) k ts
  left_open n h k ts in_range = search (rules, open_frames_at)

  -- an expression is met, and then what is inside it
  pub future_expr : (a : CurrentScopes) (id : ℕ) (ts : List Task) → Has s (NodeId.Expr id) →
      let h = chain a.scope in let k = chain a.const_scope in let x = form_of s (NodeId.Expr id) in
      future s chain h k (Task.Expr id ∷ ts)
      ≡ in_context (NodeId.Expr id) h k ∷ future s chain (opened_frames s x ++ h) (opened_const_frames x ++ k) (form_tasks a x ++ ts)
  unfolding future
  future_expr a id ts in_range = search (rules, exprs_under_expr, left_open, future_form)

  -- a pattern is what is inside it
  pub future_pat : (a : CurrentScopes) (h k : Chain) (id : ℕ) (ts : List Task) → Has s (NodeId.Pat id) →
      future s chain h k (Task.Pat id ∷ ts) ≡ future s chain h k (form_tasks a (form_of s (NodeId.Pat id)) ++ ts)
  unfolding future
  future_pat a h k id ts in_range =
      ap (λ (ps : List InContext). ps ++ future s chain (open_frames s (NodeId.Pat id) ++ h) k ts) (exprs_under_pat s fall id h k in_range)
      ∙ (left_open (NodeId.Pat id) h k ts in_range ∙ cases (slice_get s.pats id)) where
        cases : (o : Option Pat) → let x = form_at pat_form o in
            inside h k x ++ future s chain (open_frames_of_form s (open_frames s) x ++ h) k ts ≡ future s chain h k (form_tasks a x ++ ts)
        cases None = turn_bare s chain h k [] ts
        cases (Some x) = turn_bare s chain h k (pat_calls x) ts

  -- a type is in the scope of constants
  pub future_type : (a : CurrentScopes) (id : ℕ) (ts : List Task) → Has s (NodeId.TypeRef id) →
      let h = chain a.scope in let k = chain a.const_scope in let x = form_of s (NodeId.TypeRef id) in
      future s chain h k (Task.TypeRef id ∷ ts)
      ≡ future s chain (opened_frames s x ++ k) (opened_const_frames x ++ k) (form_tasks (both a.const_scope) x ++ (leave a ∷ ts))
  unfolding future
  future_type a id ts in_range =
      grind (arith, common_steps, exprs_under_type, future_form s chain (both a.const_scope) (form_of s (NodeId.TypeRef id)) (leave a ∷ ts))

  -- an arm is met in the frame of its pattern, which ends with it
  pub future_arm : (a : CurrentScopes) (arm : MatchArm) (ts : List Task) → let h = chain a.scope in let k = chain a.const_scope in
      future s chain h k (arm_task arm ∷ ts) ≡ future s chain (frame s (arm.pat ∷ []) ∷ h) k
      ((tasks_of (met_in_arm arm) ++ leave a ∷ []) ++ ts)
  unfolding future
  future_arm a arm ts =
      future_arm_task s chain (chain a.scope) (chain a.const_scope) arm.pat arm.expr arm.guard ts
      ∙ turn_ended s chain (chain a.scope) (chain a.const_scope) [] (frame s (arm.pat ∷ []) ∷ []) (met_in_arm arm) a ts refl refl

-- 3. How each task moves a walk on.

module _ (s : Nodes) where
  abbrev frame_weight : (Frame → ℕ) → Task → ℕ
  frame_weight w t = sum_by w (task_frames s t)

  abbrev node_weight : (Frame → ℕ) → NodeId → ℕ
  node_weight w n = sum_by w (node_frames s n)

  -- what tasks weigh, the first and then the others
  weight_cons : (w : Frame → ℕ) (t : Task) (ts : List Task) →
      weight_left s w (t ∷ ts) ≡ frame_weight w t + (sum_by (total s (node_weight w)) (task_children t) + weight_left s w ts)
  weight_cons w t ts = left_cons s (node_weight w) (frame_weight w) t ts

  turns_cons : (t : Task) (ts : List Task) →
      turns_left s (t ∷ ts) ≡ task_turns t + (sum_by (total s (node_turns s)) (task_children t) + turns_left s ts)
  turns_cons t ts = left_cons s (node_turns s) task_turns t ts

  -- Nodes

  module _ (fall : RankDecreases s) (m : Walk) (id : ℕ) where
    abbrev a : CurrentScopes
    a = m.current

    abbrev ts : List Task
    ts = m.tasks.stack.items

    abbrev count : ℕ
    count = length m.scopes.scopes

    abbrev chain : ℕ → Chain
    chain = chain_of m.scopes.scopes

    -- the frames around what comes next, and around the constants in it
    abbrev h : Chain
    h = frames_of_scope (state m)

    abbrev k : Chain
    k = frames_of_const_scope (state m)

    pub met_over : let x = form_of s (NodeId.Expr id) in AreInRange s (about (Task.Expr id ∷ ts)) →
        Over (map frame_of m.scopes.scopes ++ (opened_frames s x ++ opened_const_frames x)) → Exceeds s (with_next m (Task.Expr id))
    met_over known o =
        let x = form_of s (NodeId.Expr id) in
        over_exceeds s (with_next m (Task.Expr id)) (opened_frames s x ++ opened_const_frames x) o
        (λ w. omega (arith, weight_met s fall w a (NodeId.Expr id) ts known.0, weight_cons w (Task.Expr id) ts))

    pub expr_moves : {us : List Task} {new : WalkState} → let x = form_of s (NodeId.Expr id) in us ≡ form_tasks a x ++ ts →
        OpensScopes (walk_state m us) new (opened_frames s x) (opened_const_frames x) → IsReady s (with_next m (Task.Expr id)) →
        Step s (with_next m (Task.Expr id)) new (in_context (NodeId.Expr id) h k ∷ [])
    expr_moves e o r =
        let n = NodeId.Expr id in
        moves_opened s e o (leaves_met count a (form_of s n) ts r.scope r.const_scope r.leaves)
        (known_met s fall a n ts r.known.0 r.known.1) (future_expr s fall chain a id ts r.known.0)
        (λ w. omega (arith, weight_met s fall w a n ts r.known.0, weight_cons w (Task.Expr id) ts))
        (omega (arith, turns_met s fall a n ts r.known.0, turns_cons (Task.Expr id) ts))

    -- an expression in which nothing is
    pub empty_moves : form_of s (NodeId.Expr id) ≡ form.InTurn [] → IsReady s (with_next m (Task.Expr id)) →
        Step s (with_next m (Task.Expr id)) (state m) (in_context (NodeId.Expr id) h k ∷ [])
    empty_moves e r = search (rules, expr_moves, opened_none)

    pat_opens : (w : Frame → ℕ) (x : Option Pat) → let y = form_at pat_form x in sum_by w (opened_frames s y ++ opened_const_frames y) ≡ 0
    pat_opens w None = refl
    pat_opens w (Some x) = refl

    pat_met : {x : Pat} {us : List Task} → slice_get s.pats id ≡ Some x → us ≡ form_tasks a (pat_form x) ++ ts →
        us ≡ form_tasks a (form_of s (NodeId.Pat id)) ++ ts
    pat_met is e = e ∙ ap (λ (x : Option Pat). form_tasks a (form_at pat_form x) ++ ts) (sym is)

    pub pat_moves : {x : Pat} {us : List Task} → slice_get s.pats id ≡ Some x → us ≡ form_tasks a (pat_form x) ++ ts →
        IsReady s (with_next m (Task.Pat id)) → Step s (with_next m (Task.Pat id)) (walk_state m us) []
    pat_moves is e r =
        let n = NodeId.Pat id in
        moves_still s (pat_met is e) r.scope r.const_scope (leaves_met count a (form_of s n) ts r.scope r.const_scope r.leaves)
        (known_met s fall a n ts r.known.0 r.known.1) (future_pat s fall chain a h k id ts r.known.0)
        (λ w. omega (arith, weight_met s fall w a n ts r.known.0, weight_cons w (Task.Pat id) ts, pat_opens w (slice_get s.pats id)))
        (omega (arith, turns_met s fall a n ts r.known.0, turns_cons (Task.Pat id) ts))

    -- a pattern in a scope of its own: the scope is opened, and what is inside the pattern comes next
    pub bound_moves : {x : Pat} {us : List Task} {new : WalkState} → slice_get s.pats id ≡ Some x →
        us ≡ form_tasks a (pat_form x) ++ ts → OpensScopes (walk_state m us) new (frame s (id ∷ []) ∷ []) [] →
        IsReady s (with_next m (Task.Bound id)) → Step s (with_next m (Task.Bound id)) new []
    unfolding future
    bound_moves is e o r =
        let n = NodeId.Pat id in
        moves_opened s (pat_met is e) o (leaves_met count a (form_of s n) ts r.scope r.const_scope r.leaves)
        (known_met s fall a n ts r.known.0 r.known.1) (future_pat s fall chain a (frame s (id ∷ []) ∷ h) k id ts r.known.0)
        (λ w. omega (arith, weight_met s fall w a n ts r.known.0, weight_cons w (Task.Bound id) ts, pat_opens w (slice_get s.pats id)))
        (omega (arith, turns_met s fall a n ts r.known.0, turns_cons (Task.Bound id) ts))

    -- a type opens no frame as it is met
    type_future : (b : CurrentScopes) (vs : List Task) (x : Option TypeRef) → let y = form_at type_form x in
        future s chain (opened_frames s y ++ k) (opened_const_frames y ++ k) (form_tasks b y ++ vs)
        ≡ future s chain k k (form_tasks b y ++ vs)
    type_future b vs None = refl
    type_future b vs (Some (TypeRef.PatternType inner pat)) = refl
    type_future b vs (Some _) = refl

    type_opens : (w : Frame → ℕ) (x : Option TypeRef) → let y = form_at type_form x in
        sum_by w (opened_frames s y ++ opened_const_frames y) ≡ 0
    type_opens w None = refl
    type_opens w (Some (TypeRef.PatternType inner pat)) = refl
    type_opens w (Some _) = refl

    pub type_moves : {x : TypeRef} {us : List Task} → slice_get s.types id ≡ Some x →
        us ≡ form_tasks (both a.const_scope) (type_form x) ++ (leave a ∷ ts) → IsReady s (with_next m (Task.TypeRef id))
        → Step s (with_next m (Task.TypeRef id)) (at m.scopes (both a.const_scope) us) []
    type_moves is e r =
        let n = NodeId.TypeRef id in
        let b = both a.const_scope in
        let vs = leave a ∷ ts in
        moves_still s (e ∙ ap (λ (x : Option TypeRef). form_tasks b (form_at type_form x) ++ vs) (sym is)) r.const_scope r.const_scope
        (leaves_met count b (form_of s n) vs r.const_scope r.const_scope (r.scope, r.const_scope, r.leaves))
        (known_met s fall b n vs r.known.0 r.known.1) (future_type s fall chain a id ts r.known.0 ∙ type_future b vs (slice_get s.types id))
        (λ w.
        let c = weight_cons w (Task.TypeRef id) ts in
        omega (arith, weight_met s fall w b n vs r.known.0, c, weight_cons w (leave a) ts, type_opens w (slice_get s.types id)))
        (omega (arith, turns_met s fall b n vs r.known.0, turns_cons (Task.TypeRef id) ts, turns_cons (leave a) ts))

  -- Other tasks

  module _ (m : Walk) where
    abbrev current : CurrentScopes
    current = m.current

    abbrev rest : List Task
    rest = m.tasks.stack.items

    pub constant_moves : (id : ℕ) {us : List Task} → us ≡ Task.Expr id ∷ leave current ∷ rest → IsReady s (with_next m (Task.Constant id)) →
        Step s (with_next m (Task.Constant id)) (at m.scopes (both current.const_scope) us) []
    unfolding future
    constant_moves id e r = grind (arith, common_steps, moves_still, weight_cons, turns_cons)

    pub leave_moves : (b : CurrentScopes) → IsReady s (with_next m (leave b)) → Step s (with_next m (leave b)) (at m.scopes b rest) []
    unfolding future
    leave_moves b r = grind (arith, common_steps, moves_still, weight_cons, turns_cons)

    pub macro_moves : (id : ℕ) {new : WalkState} → let f = of_kind (ScopeKind.MacroDef id) in OpensScopes (state m) new (f ∷ []) (f ∷ []) →
        IsReady s (with_next m (Task.MacroDef id)) → Step s (with_next m (Task.MacroDef id)) new []
    unfolding future
    macro_moves id o r =
        moves_opened s refl o r.leaves r.known refl
        (λ w. let c = weight_cons w (Task.MacroDef id) rest in omega (arith, c))
        (let c = turns_cons (Task.MacroDef id) rest in omega (arith, c))

    -- the scope of a root is also that of the constants in it
    pub root_moves : (id : ℕ) {us : List Task} {new : WalkState} → us ≡ Task.Expr id ∷ rest →
        OpensScopes (at m.scopes (both 0) us) new (empty ∷ []) [] → IsReady s (with_next m (Task.Root id)) →
        Step s (with_next m (Task.Root id)) (at new.scopes (both new.current.scope) new.tasks) []
    unfolding future
    root_moves id {us} {new} e o r =
        let root = at new.scopes (both new.current.scope) new.tasks in
        let opens : Opens (at m.scopes (both 0) us) root (empty ∷ []) (empty ∷ []) (empty ∷ []) = record {
          more = o.more;
          grows = o.grows;
          same = o.same;
          tasks = o.tasks;
          frames = o.frames;
          scope = o.scope;
          const_scope = o.scope;
        } in
        moves_opened s e opens r.leaves.1 r.known refl
        (λ w. omega (arith, weight_cons w (Task.Root id) rest, weight_cons w (Task.Expr id) rest))
        (omega (arith, turns_cons (Task.Root id) rest, turns_cons (Task.Expr id) rest))

  -- Arms

  -- the tasks of an arm
  abbrev pub in_arm : ℕ → Option ℕ → ℕ → Task → List Task → List Task
  in_arm pat guard expr last ts = Task.Pat pat ∷ (tasks_of (opt e guard) ++ (Task.Expr expr ∷ last ∷ ts))

  module _ (m : Walk) (pat expr : ℕ) where
    abbrev last : Task
    last = leave m.current

    abbrev later : List Task
    later = m.tasks.stack.items

    left_arm : (u : NodeId → ℕ) (v : Task → ℕ) (guard : Option ℕ) → v (Task.Pat pat) ≡ 0 → ((x : ℕ) → v (Task.Expr x) ≡ 0) →
        tasks_weight s u v (guarded_task pat expr guard ∷ later) + v last
        ≡ v (guarded_task pat expr guard) + tasks_weight s u v (in_arm pat guard expr last later)
    left_arm u v None z y = grind (arith, common_steps, left_cons)
    left_arm u v (Some guard) z y = grind (arith, common_steps, left_cons)

    arm_weight : (w : Frame → ℕ) (guard : Option ℕ) → frame_weight w (guarded_task pat expr guard) ≡ sum_by w (frame s (pat ∷ []) ∷ [])
    arm_weight w None = refl
    arm_weight w (Some guard) = refl

    arm_turns : (guard : Option ℕ) → task_turns (guarded_task pat expr guard) ≡ 2
    arm_turns None = refl
    arm_turns (Some guard) = refl

    arm_leaves : (n : ℕ) (guard : Option ℕ) → m.current.scope < n → m.current.const_scope < n →
        LeavesWithin n (guarded_task pat expr guard ∷ later) → LeavesWithin n (in_arm pat guard expr last later)
    arm_leaves n None h k l = (h, k, l)
    arm_leaves n (Some guard) h k l = (h, k, l)

    arm_known : (guard : Option ℕ) → AreInRange s (about (guarded_task pat expr guard ∷ later)) →
        AreInRange s (about (in_arm pat guard expr last later))
    arm_known None k = k
    arm_known (Some guard) k = k

    arm_future : RankDecreases s → (guard : Option ℕ) → future_of s (with_next m (guarded_task pat expr guard))
        ≡ future s (chain_of m.scopes.scopes) (frame s (pat ∷ []) ∷ frames_of_scope (state m)) (frames_of_const_scope (state m))
        (in_arm pat guard expr last later)
    arm_future fall None = future_arm s fall (chain_of m.scopes.scopes) m.current (arm_with pat expr None) later
    arm_future fall (Some guard) = future_arm s fall (chain_of m.scopes.scopes) m.current (arm_with pat expr (Some guard)) later

    pub arm_moves : RankDecreases s → (guard : Option ℕ) {us : List Task} {new : WalkState} → us ≡ in_arm pat guard expr last later →
        OpensScopes (walk_state m us) new (frame s (pat ∷ []) ∷ []) [] → IsReady s (with_next m (guarded_task pat expr guard)) →
        Step s (with_next m (guarded_task pat expr guard)) new []
    arm_moves fall guard e o r =
        moves_opened s e o (arm_leaves (length m.scopes.scopes) guard r.scope r.const_scope r.leaves) (arm_known guard r.known)
        (arm_future fall guard)
        (λ w. omega (arith, left_arm (node_weight w) (frame_weight w) guard refl (λ x. refl), arm_weight w guard))
        (omega (arith, left_arm (node_turns s) task_turns guard refl (λ x. refl), arm_turns guard))
