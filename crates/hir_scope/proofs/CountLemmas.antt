-- Sums: over tasks and all nodes under those that they are about, over what is reached, and over frames, as scopes and as entries.
use Rattle.std.proofs.Common.{◌≡◌, ℕ, zero, suc, ◌+◌, ◌<◌, List, [], ◌∷◌, map, length, refl, sym, ap, ◌∙◌, arith, Bool, cond, ◌++◌, rules}
use Rattle.std.proofs.Common.{append-nil, Option, Some, None}
use Rattle.std.proofs.lemmas.List.Concat.{flat_map-append, length-flat_map}
use Rattle.std.proofs.lemmas.List.Sorted.{sum_by-IsPermutation}
use Rattle.std.proofs.lemmas.List.Sums.{length-filter, sum_by-append, sum_by-cons}
use Rattle.std.specs.List.{flat_map, sum_by}
use Rattle.hir_base.specs.declared.mod_path.PathKind.TheVariants.{Plain}
use Rattle.hir_path.specs.declared.bound.{TypeBound.TypeBound, UseArgRef.UseArgRef}
use Rattle.hir_path.specs.declared.path.{GenericArgs.GenericArgs, Path.Path}
use Rattle.hir_node.specs.ChildCalls.{Call, OnLifetime, e, p, t, l, opt, pat_of_call, use_calls, bound_calls, args_calls}
use Rattle.hir_node.specs.ChildCalls.{spread_calls, array_calls, children}
use Rattle.hir_node.specs.declared.expr.Expr.{Expr}
use Rattle.hir_node.specs.declared.expr_types.{Array.Array, Item.Item, MatchArm.MatchArm}
use Rattle.hir_node.specs.declared.expr_types.{RecordSpread.RecordSpread, Statement.Statement}
use Rattle.hir_node.specs.declared.{node_id.NodeId.NodeId, type_ref.TypeRef.TypeRef}
use Rattle.hir_node.proofs.ChildPatLemmas.{none-path, pats-list}
use Rattle.hir_validate.specs.{Recursion.rank, Recursion.RankDecreases, declared.node_arenas.Nodes.Nodes, Nodes.Has, Nodes.children_of}
use Rattle.hir_validate.proofs.RecursionLemmas.{fold_down_at}
use Rattle.hir_store_core.specs.Under.{nodes_under, reached_nodes}
use Rattle.hir_scope.specs.BodyScopes.{expr_count, is_expr}
use Rattle.hir_scope.specs.Chains.{InContext, child_in_context, children_in_context}
use Rattle.hir_scope.specs.Counts.{count_if_some, statement_frames, frames_opened, statement_scopes, form_scopes}
use Rattle.hir_scope.specs.ScopingForms.{ScopingForm, expr_form, type_form, form_of}
use Rattle.hir_scope.specs.ScopingForms as form
use Rattle.hir_scope.specs.{Frames.Frame, Frames.binds, Frames.frame, Order.met_in_closure, Order.met_in_form}
use Rattle.hir_scope.specs.ChildContexts.{ChildContext, child_contexts, own_frame, block_const_frames}
use Rattle.hir_scope.specs.declared.tasks.{CurrentScopes.CurrentScopes, Task.Task}
use Rattle.hir_scope.specs.internal.WalkState.{total, about, one, count_entries, tasks_weight, node_tasks, node_frames}
use Rattle.hir_scope.specs.internal.WalkState.{weight_left, node_turns, turns_left}
use Rattle.hir_scope.specs.internal.Pending.{task_of, tasks_of, one_arm, guarded_task, leave, statement_tasks, form_tasks, opened_frames}
use Rattle.hir_scope.specs.internal.Pending.{opened_const_frames, task_children, task_frames}
use Rattle.hir_scope.specs.internal.ContextsUnder.{contexts_under, exprs_under}
use Rattle.hir_scope.proofs.ChildLemmas.{children_in, child_contexts_children, children_of_form, about_form}
use Rattle.hir_scope.proofs.MemberLemmas.{In, contains_in, sum_flat, sum_same, sum_mapped, sum_plus, sum_none, sum_ones, agree_in}
use Rattle.hir_scope.proofs.UnderLemmas.{under_at, child_in_range, child_lower}
use Rattle.std.proofs.lemmas.Grind.{common_steps}

-- 1. Sums over tasks and all nodes under those that they are about: what a node weighs is what it weighs itself, and what its tasks weigh.

module _ (s : Nodes) (fall : RankDecreases s) (u : NodeId → ℕ) where
  pub total_at : (n : NodeId) → Has s n → total s u n ≡ u n + sum_by (total s u) (children_of s n)
  unfolding total
  total_at n h = search (rules, fold_down_at, sum_same, agree_in)

  met_total : (n : NodeId) → sum_by (total s u) (children (met_in_form (form_of s n))) ≡ sum_by (total s u) (children_of s n)
  unfolding child_contexts
  met_total n =
      ap (λ (ns : List NodeId). sum_by (total s u) ns) (sym (children_of_form s (form_of s n)))
      ∙ sum_by-IsPermutation (total s u) (children_of s n) (children_in (child_contexts s n)) (child_contexts_children s n)

  -- a node is met: its own weight goes, and what is inside it comes
  pub left_met : (v : Task → ℕ) (a : CurrentScopes) (n : NodeId) (ts : List Task) → Has s n →
      let inside = form_tasks a (form_of s n) in (total s u n + tasks_weight s u v ts) + sum_by v inside
      ≡ u n + tasks_weight s u v (inside ++ ts)
  left_met v a n ts h = search (rules, flat_map-append, sum_by-append, total_at, met_total, about_form)

-- 2. What is still to come, as sums: a node that is met leaves what its tasks weigh, less what it opens itself.

-- Sums over tasks

module _ (s : Nodes) (u : NodeId → ℕ) (v : Task → ℕ) where
  pub left_cons : (t : Task) (ts : List Task) → tasks_weight s u v (t ∷ ts)
      ≡ v t + (sum_by (total s u) (task_children t) + tasks_weight s u v ts)
  left_cons t ts = omega (arith, sum_by-cons v t ts, sum_by-append (total s u) (task_children t) (about ts))

-- what is left with one scope weighs as much as what is left with another
module _ (v : Task → ℕ) (a b : CurrentScopes) (same : v (leave a) ≡ v (leave b)) where
  around_last : (us : List Task) → sum_by v (us ++ leave a ∷ []) ≡ sum_by v (us ++ leave b ∷ [])
  around_last us = let x = sum_by-append v us (leave a ∷ []) in let y = sum_by-append v us (leave b ∷ []) in omega (arith, x, y, same)

  around_same : (x : ScopingForm) → sum_by v (form_tasks a x) ≡ sum_by v (form_tasks b x)
  around_same (form.If c y f) = search (rules, sum_by-append, sum_by-cons)
  around_same (form.Let pat x) = refl
  around_same (form.Block id label xs tail) = search (rules, sum_by-append, around_last)
  around_same (form.Loop label body) = around_last (Task.Expr body ∷ [])
  around_same (form.Closure types ret args body) = around_last (tasks_of (met_in_closure types ret args body))
  around_same (form.Match x arms) = refl
  around_same (form.Assignment target value) = omega (arith, same)
  around_same (form.PatternType ty pat) = around_last (Task.TypeRef ty ∷ Task.Bound pat ∷ [])
  around_same (form.InTurn cs) = refl

-- Frames

module _ (s : Nodes) (fall : RankDecreases s) where
  -- a node is entered: the frames that it opens exist, those of its tasks are still to come
  pub weight_met : (w : Frame → ℕ) (a : CurrentScopes) (n : NodeId) (ts : List Task) → Has s n → let x = form_of s n in
      total s (λ (m : NodeId). sum_by w (node_frames s m)) n + weight_left s w ts
      ≡ sum_by w (opened_frames s x ++ opened_const_frames x) + weight_left s w (form_tasks a x ++ ts)
  weight_met w a n ts h = grind (arith, common_steps, left_met, sum_by-append, sum_flat w (task_frames s) (node_tasks s n), around_same)

  pub turns_met : (a : CurrentScopes) (n : NodeId) (ts : List Task) → Has s n →
      total s (node_turns s) n + turns_left s ts ≡ 2 + turns_left s (form_tasks a (form_of s n) ++ ts)
  turns_met a n ts h = grind (arith, common_steps, left_met, around_same)

-- 3. Sums over what is reached, however it is listed: by nodes, by places, or told from each node by its children.

abbrev pub one_if : Bool → ℕ
one_if b = cond b 1 0

-- Sums over what is under nodes

module _ (s : Nodes) (fall : RankDecreases s) (listing : (n : NodeId) → nodes_under s n
    ≡ n ∷ flat_map (nodes_under s) (children_of s n)) (f : NodeId → ℕ) where
  nodes_total : (n : ℕ) (m : NodeId) → rank s m < n → Has s m → sum_by f (nodes_under s m) ≡ total s f m
  nodes_total zero m l h = absurd (omega (arith, l))
  nodes_total (suc n) m l h =
      let a = ap (λ (ns : List NodeId). sum_by f ns) (listing m) in
      let b = sum_by-cons f m (flat_map (nodes_under s) (children_of s m)) in
      let d = sum_flat f (nodes_under s) (children_of s m) in
      let r = sum_same (λ k. sum_by f (nodes_under s k)) (total s f) (children_of s m) (λ k i.
      let c = contains_in (children_of s m) k i in
      nodes_total n k (let low = fall.lower m h k c in omega (arith, low, l)) (fall.in_range m h k c)) in
      omega (arith, a, b, d, r, total_at s fall f m h)

  pub reached_total : (entry_nodes : List NodeId) → ((n : NodeId) → In n entry_nodes → Has s n) →
      sum_by f (reached_nodes s entry_nodes) ≡ sum_by (total s f) entry_nodes
  reached_total entry_nodes in_range = search (rules, sum_flat, sum_same, nodes_total)

module _ (s : Nodes) (fall : RankDecreases s) (f : NodeId → ℕ) where
  abbrev at_context : InContext → ℕ
  at_context p = f p.node

  children_sum : (p : InContext) → sum_by (λ (q : InContext). total s f q.node) (children_in_context s p)
      ≡ sum_by (total s f) (children_of s p.node)
  children_sum p =
      sum_mapped (λ (q : InContext). total s f q.node) (child_in_context p.scope p.const_scope) (child_contexts s p.node)
      ∙ (sym (sum_mapped (total s f) (λ (x : ChildContext). x.child) (child_contexts s p.node))
      ∙ sum_by-IsPermutation (total s f) (children_of s p.node) (children_in (child_contexts s p.node)) (child_contexts_children s p.node))

  contexts_total : (n : ℕ) (p : InContext) → rank s p.node < n → Has s p.node → sum_by at_context (contexts_under s p) ≡ total s f p.node
  contexts_total zero p l h = absurd (omega (arith, l))
  contexts_total (suc n) p l h =
      let a = ap (λ (ps : List InContext). sum_by at_context ps) (under_at s fall p h) in
      let b = sum_by-cons at_context p (flat_map (contexts_under s) (children_in_context s p)) in
      let d = sum_flat at_context (contexts_under s) (children_in_context s p) in
      let r = sum_same (λ q. sum_by at_context (contexts_under s q)) (λ (q : InContext). total s f q.node) (children_in_context s p) (λ q i.
      contexts_total n q (let low = child_lower s fall p q h i in omega (arith, low, l)) (child_in_range s fall p q h i)) in
      omega (arith, a, b, d, r, children_sum p, total_at s fall f p.node h)

  pub context_total : (entry_nodes : List InContext) → ((p : InContext) → In p entry_nodes → Has s p.node) →
      sum_by at_context (flat_map (contexts_under s) entry_nodes)
      ≡ sum_by (total s f) (map (λ (p : InContext). p.node) entry_nodes)
  context_total entry_nodes in_range = search (rules, sum_flat, sum_same, contexts_total, sum_mapped)

-- As many expressions are listed by places as by nodes

abbrev expr_one : NodeId → ℕ
expr_one n = one_if (is_expr n)

pub exprs_counted : (s : Nodes) → RankDecreases s →
    ((n : NodeId) → nodes_under s n ≡ n ∷ flat_map (nodes_under s) (children_of s n)) →
    (entry_nodes : List InContext) (nodes : List NodeId) → nodes ≡ map (λ (p : InContext). p.node) entry_nodes →
    ((p : InContext) → In p entry_nodes → Has s p.node) → ((n : NodeId) → In n nodes → Has s n) →
    length (exprs_under s entry_nodes) ≡ expr_count (reached_nodes s nodes)
unfolding exprs_under
exprs_counted s fall listing entry_nodes nodes same in_range in_range_too = search (rules, length-filter, context_total, reached_total)

-- 4. What the frames of a node are, counted: as scopes, by its form; and as entries, by the patterns among its children.

-- the frames that a form opens, as it is met and by its tasks
abbrev pub form_frames : Nodes → CurrentScopes → ScopingForm → List Frame
form_frames s current x = (opened_frames s x ++ opened_const_frames x) ++ flat_map (task_frames s) (form_tasks current x)

frames_split : (s : Nodes) (w : Frame → ℕ) (current : CurrentScopes) (x : ScopingForm) →
    sum_by w (form_frames s current x) ≡ (sum_by w (opened_frames s x) + sum_by w (opened_const_frames x)) + sum_by
    (λ t. sum_by w (task_frames s t)) (form_tasks current x)
frames_split s w current x = search (rules, sum_by-append, sum_flat)

-- Each frame

-- what the frames that a task opens itself weigh
abbrev weigh : Nodes → (Frame → ℕ) → Task → ℕ
weigh s w x = sum_by w (task_frames s x)

module _ (s : Nodes) (w : Frame → ℕ) where
  -- the tasks of calls open nothing
  call_opens : (c : Call) → sum_by (weigh s w) (task_of c) ≡ 0
  call_opens (OnLifetime x) = refl
  call_opens _ = refl

  pub calls_open : (cs : List Call) → sum_by (λ x. sum_by w (task_frames s x)) (tasks_of cs) ≡ 0
  calls_open cs = sum_flat (weigh s w) task_of cs ∙ sum_none (λ c. sum_by (weigh s w) (task_of c)) cs call_opens

  statement_opens : (x : Statement) → sum_by (weigh s w) (statement_tasks x) ≡ sum_by w (statement_frames s x)
  statement_opens (Statement.Let pat ty x y) = search (rules, sum_by-append, calls_open)
  statement_opens (Statement.Expr x semi) = refl
  statement_opens (Statement.Item (Item.MacroDef id)) = omega arith
  statement_opens (Statement.Item Item.Other) = refl

  statements_open : (xs : List Statement) → sum_by (weigh s w) (flat_map statement_tasks xs) ≡ sum_by w (flat_map (statement_frames s) xs)
  statements_open xs = search (rules, sum_flat, sum_same, statement_opens)

  guarded_opens : (pat expr : ℕ) (guard : Option ℕ) → weigh s w (guarded_task pat expr guard) ≡ w (frame s (pat ∷ []))
  guarded_opens pat expr None = omega arith
  guarded_opens pat expr (Some guard) = omega arith

  arms_open : (arms : List MatchArm) → sum_by (weigh s w) (flat_map one_arm arms) ≡ sum_by w (map (λ arm. frame s (arm.pat ∷ [])) arms)
  arms_open arms = search (rules, sum_flat, sum_same, guarded_opens, sum_mapped)

  -- what a form opens as it is met, and by its tasks
  tasks_open : (current : CurrentScopes) (x : ScopingForm) →
      (sum_by w (opened_frames s x) + sum_by w (opened_const_frames x)) + sum_by (weigh s w) (form_tasks current x)
      ≡ sum_by w (frames_opened s x)
  tasks_open current (form.If c y f) = search (rules, sum_by-append, sum_by-cons, calls_open)
  tasks_open current (form.Let pat x) = omega arith
  tasks_open current (form.Block id label xs tail) = search (rules, sum_by-append, statements_open, calls_open, sum_by-cons)
  tasks_open current (form.Loop label body) = omega arith
  tasks_open current (form.Closure types ret args body) = search (rules, sum_by-append, calls_open)
  tasks_open current (form.Match x arms) = omega (arith, sum_by-cons (weigh s w) (Task.Expr x) (flat_map one_arm arms), arms_open arms)
  tasks_open current (form.Assignment target value) = omega arith
  tasks_open current (form.PatternType ty pat) = omega arith
  tasks_open current (form.InTurn cs) = let r = calls_open cs in omega (arith, r)

  -- a node opens the frames that its form says
  pub form_opens : (current : CurrentScopes) (x : ScopingForm) → sum_by w (form_frames s current x) ≡ sum_by w (frames_opened s x)
  form_opens current x = frames_split s w current x ∙ tasks_open current x

-- As scopes

module _ (s : Nodes) where
  statement_ones : (x : Statement) → sum_by one (statement_frames s x) ≡ statement_scopes x
  statement_ones (Statement.Let pat ty x y) = refl
  statement_ones (Statement.Expr x semi) = refl
  statement_ones (Statement.Item (Item.MacroDef id)) = refl
  statement_ones (Statement.Item Item.Other) = refl

  constants_one : (id : Option ℕ) → sum_by one (block_const_frames id) ≡ count_if_some id
  constants_one None = refl
  constants_one (Some id) = refl

  opened_ones : (x : ScopingForm) → sum_by one (frames_opened s x) ≡ form_scopes x
  opened_ones (form.Block id label xs tail) =
      let all = flat_map (statement_frames s) xs in
      let b = sum_flat one (statement_frames s) xs in
      let d = sum_same (λ x. sum_by one (statement_frames s x)) statement_scopes xs (λ x i. statement_ones x) in
      omega (
        arith,
        sum_by-cons one (own_frame id label) (block_const_frames id ++ all),
        sum_by-append one (block_const_frames id) all,
        constants_one id,
        b,
        d,
      )
  opened_ones (form.Match x arms) =
      sum_mapped one (λ arm. frame s (arm.pat ∷ [])) arms ∙ sum_ones (λ arm. one (frame s (arm.pat ∷ []))) arms (λ arm i. refl)
  opened_ones _ = refl

  -- a node opens as many scopes as its form says
  pub form_ones : (current : CurrentScopes) (x : ScopingForm) → sum_by one (form_frames s current x) ≡ form_scopes x
  form_ones current x = form_opens s one current x ∙ opened_ones x

-- No pattern is among the calls of a node that is no scoping form, a pattern aside

abbrev none : List Call → Type 0
none calls = flat_map pat_of_call calls ≡ []

none-append : (xs ys : List Call) → none xs → none ys → none (xs ++ ys)
none-append xs ys h k = flat_map-append pat_of_call xs ys ∙ rw (h, k) refl

none-each : {X : Type 0} (calls : X → List Call) → ((x : X) → none (calls x)) → (xs : List X) → none (flat_map calls xs)
none-each calls h [] = refl
none-each calls h (x ∷ xs) = none-append (calls x) (flat_map calls xs) (h x) (none-each calls h xs)

none-opt : {X : Type 0} (calls : X → List Call) → ((x : X) → none (calls x)) → (o : Option X) → none (opt calls o)
none-opt calls h None = refl
none-opt calls h (Some x) = h x

none-use : (x : UseArgRef) → none (use_calls x)
none-use (UseArgRef.Name name) = refl
none-use (UseArgRef.Lifetime id) = refl

none-bound : (x : TypeBound) → none (bound_calls x)
none-bound (TypeBound.Path id modifier) = refl
none-bound (TypeBound.ForLifetime names id) = refl
none-bound (TypeBound.Lifetime id) = refl
none-bound (TypeBound.Use args) = none-each use_calls none-use args
none-bound TypeBound.Error = refl

-- generic arguments are those of some path
none-args : (x : GenericArgs) → none (args_calls x)
none-args x =
    ap (flat_map pat_of_call) (sym (append-nil (args_calls x ++ []) ∙ append-nil (args_calls x)))
    ∙ none-path (Path.Normal (record { generic_args = Some x ∷ []; type_anchor = None; mod_path = record { kind = Plain; segments = [] } }))

none-array : (x : Array) → none (array_calls x)
none-array (Array.ElementList elements) = none-each e (λ x. refl) elements
none-array (Array.Repeat initializer repeat) = refl

none-spread : (x : RecordSpread) → none (spread_calls x)
none-spread RecordSpread.None = refl
none-spread RecordSpread.FieldDefaults = refl
none-spread (RecordSpread.Expr id) = refl

-- no pattern is among what a form visits in turn
abbrev pub MeetsNone : ScopingForm → Type 0
MeetsNone (form.InTurn cs) = none cs
MeetsNone x = none []

pub expr_meets : (x : Expr) → MeetsNone (expr_form x)
expr_meets (Expr.Call callee args) = none-append (e callee) (flat_map e args) refl (none-each e (λ x. refl) args)
expr_meets (Expr.MethodCall receiver name args generic_args) = search (rules, none-append, none-each, none-opt, none-args)
expr_meets (Expr.Break x label) = none-opt e (λ y. refl) x
expr_meets (Expr.Return x) = none-opt e (λ y. refl) x
expr_meets (Expr.Yield x) = none-opt e (λ y. refl) x
expr_meets (Expr.Yeet x) = none-opt e (λ y. refl) x
expr_meets (Expr.RecordLit path fields spread) = search (rules, none-append, none-each, none-spread, none-path)
expr_meets (Expr.Array x) = none-array x
expr_meets (Expr.Tuple exprs) = none-each e (λ x. refl) exprs
expr_meets (Expr.Path path) = none-path path
expr_meets _ = refl

pub type_meets : (x : TypeRef) → MeetsNone (type_form x)
type_meets (TypeRef.Tuple types) = none-each t (λ x. refl) types
type_meets (TypeRef.Path path) = none-path path
type_meets (TypeRef.Reference reference) = search (rules, none-append, none-opt)
type_meets (TypeRef.Fn function) = none-each (λ entry. t entry.1) (λ x. refl) function.params
type_meets (TypeRef.ImplTrait bounds) = none-each bound_calls none-bound bounds
type_meets (TypeRef.DynTrait bounds) = none-each bound_calls none-bound bounds
type_meets _ = refl

-- As entries

module _ (s : Nodes) where
  -- what a pattern binds, of those among nodes
  abbrev pub bound_by : NodeId → ℕ
  bound_by (NodeId.Pat id) = length (binds s id)
  bound_by (NodeId.Expr id) = 0
  bound_by (NodeId.TypeRef id) = 0

  abbrev weights_of : Task → ℕ
  weights_of x = sum_by count_entries (task_frames s x)

  -- what a task's pattern binds in a frame that the task does not open
  abbrev rest_of : Task → ℕ
  rest_of (Task.Pat id) = length (binds s id)
  rest_of x = 0

  pub frame_entries : (ps : List ℕ) → length (frame s ps).entries ≡ sum_by (λ q. length (binds s q)) ps
  frame_entries ps = length-flat_map (binds s) ps

  one_frame : (q : ℕ) → length (frame s (q ∷ [])).entries ≡ length (binds s q)
  one_frame q = let r = frame_entries (q ∷ []) in omega (arith, r)

  task_bound : (x : Task) → sum_by bound_by (task_children x) ≡ weights_of x + rest_of x
  task_bound (Task.Bound id) = let r = one_frame id in omega (arith, r)
  task_bound (Task.Arm pat expr) = let r = one_frame pat in omega (arith, r)
  task_bound (Task.GuardedArm pat guard expr) = let r = one_frame pat in omega (arith, r)
  task_bound _ = refl

  tasks_bound : (ts : List Task) → sum_by bound_by (about ts) ≡ sum_by weights_of ts + sum_by rest_of ts
  tasks_bound ts = search (rules, sum_flat, sum_same, task_bound, sum_plus)

  -- of calls, what the patterns among them bind
  call_rest : (c : Call) → sum_by rest_of (task_of c) ≡ sum_by (λ q. length (binds s q)) (pat_of_call c)
  call_rest (OnLifetime x) = refl
  call_rest _ = refl

  calls_rest : (cs : List Call) → sum_by rest_of (tasks_of cs) ≡ sum_by (λ q. length (binds s q)) (flat_map pat_of_call cs)
  calls_rest cs = search (rules, sum_flat, sum_same, call_rest)

  calls_none : (cs : List Call) → none cs → sum_by rest_of (tasks_of cs) ≡ 0
  calls_none cs h = calls_rest cs ∙ ap (λ (ps : List ℕ). sum_by (λ q. length (binds s q)) ps) h

  opt_none : (x : Option ℕ) → sum_by rest_of (tasks_of (opt e x)) ≡ 0
  opt_none x = calls_none (opt e x) (none-opt e (λ y. refl) x)

  statement_rest : (x : Statement) → sum_by rest_of (statement_tasks x) ≡ 0
  statement_rest (Statement.Let pat ty x y) = search (rules, calls_none, none-append, none-opt, sum_by-append)
  statement_rest (Statement.Expr x semi) = refl
  statement_rest (Statement.Item (Item.MacroDef id)) = refl
  statement_rest (Statement.Item Item.Other) = refl

  statements_rest : (xs : List Statement) → sum_by rest_of (flat_map statement_tasks xs) ≡ 0
  statements_rest xs = sum_flat rest_of statement_tasks xs ∙ sum_none (λ x. sum_by rest_of (statement_tasks x)) xs statement_rest

  guarded_rest : (pat expr : ℕ) (guard : Option ℕ) → rest_of (guarded_task pat expr guard) ≡ 0
  guarded_rest pat expr None = refl
  guarded_rest pat expr (Some guard) = refl

  arms_rest : (arms : List MatchArm) → sum_by rest_of (flat_map one_arm arms) ≡ 0
  arms_rest arms = search (rules, sum_flat, sum_none, guarded_rest)

  constants_empty : (id : Option ℕ) → sum_by count_entries (block_const_frames id) ≡ 0
  constants_empty None = refl
  constants_empty (Some id) = refl

  closure_pats : (types : List (Option ℕ)) (ret : Option ℕ) (args : List ℕ) (body : ℕ) →
      flat_map pat_of_call (met_in_closure types ret args body) ≡ args
  closure_pats types ret args body = search (rules, flat_map-append, none-append, none-each, none-opt, pats-list, append-nil)

  -- what the frames hold that are opened as a node is met is what patterns among its tasks bind that open none
  opens_rest : (current : CurrentScopes) (x : ScopingForm) → MeetsNone x →
      sum_by count_entries (opened_frames s x) + sum_by count_entries (opened_const_frames x)
      ≡ sum_by rest_of (form_tasks current x)
  opens_rest current (form.If c y f) h =
      let b = sum_by-append rest_of (tasks_of (e c ++ e y)) (leave current ∷ tasks_of (opt e f)) in
      omega (arith, b, sum_by-cons rest_of (leave current) (tasks_of (opt e f)), calls_none (e c ++ e y) refl, opt_none f)
  opens_rest current (form.Block id label xs tail) h =
      let b = sum_by-append rest_of (flat_map statement_tasks xs) (tasks_of (opt e tail) ++ leave current ∷ []) in
      omega (
        arith,
        b,
        sum_by-append rest_of (tasks_of (opt e tail)) (leave current ∷ []),
        statements_rest xs,
        opt_none tail,
        constants_empty id,
      )
  opens_rest current (form.Closure types ret args body) h =
      let cs = met_in_closure types ret args body in
      let b = calls_rest cs ∙ ap (λ (ps : List ℕ). sum_by (λ q. length (binds s q)) ps) (closure_pats types ret args body) in
      omega (arith, sum_by-append rest_of (tasks_of cs) (leave current ∷ []), b, frame_entries args)
  opens_rest current (form.Match x arms) h = omega (arith, sum_by-cons rest_of (Task.Expr x) (flat_map one_arm arms), arms_rest arms)
  opens_rest current (form.Assignment target value) h = let r = one_frame target in omega (arith, r)
  opens_rest current (form.InTurn cs) h = let r = calls_none cs h in omega (arith, r)
  opens_rest current _ h = refl

  -- so a node's frames hold what the patterns among its children bind
  pub form_entries : (current : CurrentScopes) (x : ScopingForm) → MeetsNone x →
      sum_by count_entries (form_frames s current x) ≡ sum_by bound_by (about (form_tasks current x))
  form_entries current x h =
      omega (
        arith,
        frames_split s count_entries current x,
        opens_rest current x h,
        tasks_bound
            (form_tasks current x),
      )

  -- what is met in turn opens no frame
  pub turn_entries : (current : CurrentScopes) (cs : List Call) → sum_by count_entries (form_frames s current (form.InTurn cs)) ≡ 0
  turn_entries current cs = omega (arith, frames_split s count_entries current (form.InTurn cs), calls_open s count_entries cs)
