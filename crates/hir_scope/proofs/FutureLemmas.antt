-- What tasks will visit: of a form, and of the entry nodes of a body or a signature.
use Rattle.std.proofs.Common.{◌≡◌, ℕ, List, [], ◌∷◌, ◌++◌, map, refl, sym, ap, ◌∙◌, append_assoc, Option, Some, None, rules, arith}
use Rattle.std.proofs.lemmas.List.{append-nil, map-append}
use Rattle.std.proofs.lemmas.List.{Concat.flat_map-append, Elements.filter-append}
use Rattle.std.specs.{List.flat_map, Option.option_to_list, Option.option_map}
use Rattle.hir_node.specs.ChildCalls.{Call, OnExpr, OnAnonConst, OnPat, OnType, OnLifetime, e, p, t, opt, children}
use Rattle.hir_node.specs.declared.expr_types.{Item.Item, MatchArm.MatchArm, Statement.Statement}
use Rattle.hir_node.specs.declared.node_id.NodeId.{NodeId}
use Rattle.hir_validate.specs.declared.node_arenas.Nodes.{Nodes}
use Rattle.hir_scope.specs.{Chains.InContext, Chains.child_in_context, ScopingForms.ScopingForm}
use Rattle.hir_scope.specs.ScopingForms as form
use Rattle.hir_scope.specs.Frames.{Frame, Chain, frame, empty}
use Rattle.hir_scope.specs.{OpenFrames.open_frames, OpenFrames.open_frames_of_calls, OpenFrames.open_frames_of_form, Order.met_in_arm}
use Rattle.hir_scope.specs.ChildContexts.{ChildContext, in_turn, frames_after}
use Rattle.hir_scope.specs.ChildContexts.{const_frames_after, statement_child_contexts, block_child_contexts, arm_child_contexts}
use Rattle.hir_scope.specs.ChildContexts.{child_contexts_of_form}
use Rattle.hir_scope.specs.EntryNodes.{root_frame, body_entry_nodes, signature_entry_nodes}
use Rattle.hir_scope.specs.declared.tasks.CurrentScopes.{CurrentScopes}
use Rattle.hir_scope.specs.declared.tasks.Task.{Task}
use Rattle.hir_scope.specs.internal.Pending.{tasks_of, arm_task, one_arm, arm_with, leave, statement_tasks, form_tasks, opened_frames}
use Rattle.hir_scope.specs.internal.Pending.{opened_const_frames, future}
use Rattle.hir_scope.specs.internal.ContextsUnder.{in_context, exprs_under}
use Rattle.hir_scope.proofs.ChildLemmas.{children_in, turn_children}
use Rattle.std.proofs.lemmas.Grind.{common_steps}

-- 1. What is still to do before a task is what it does, and then what is still to do after it.

pub exprs_under-nil : (s : Nodes) → exprs_under s [] ≡ []
unfolding exprs_under
exprs_under-nil s = refl

pub exprs_under-append : (s : Nodes) (xs ys : List InContext) → exprs_under s (xs ++ ys) ≡ exprs_under s xs ++ exprs_under s ys
unfolding exprs_under
exprs_under-append s xs ys = simp (flat_map-append, filter-append)

module _ (s : Nodes) (chain : ℕ → Chain) where
  two : (h k : Chain) (xs ys : List ChildContext) (rest : List InContext) →
      exprs_under s (map (child_in_context h k) (xs ++ ys)) ++ rest
      ≡ exprs_under s (map (child_in_context h k) xs) ++ (exprs_under s (map (child_in_context h k) ys) ++ rest)
  two h k xs ys rest = search (rules, map-append, exprs_under-append, append_assoc)

  none : (rest : List InContext) → exprs_under s [] ++ rest ≡ rest
  none rest = ap (λ (ps : List InContext). ps ++ rest) (exprs_under-nil s)

  head : (at : InContext) (ps rest : List InContext) → exprs_under s (at ∷ ps) ++ rest
      ≡ exprs_under s (at ∷ []) ++ (exprs_under s ps ++ rest)
  head at ps rest =
      grind (arith, common_steps, exprs_under-append s (at ∷ []) ps, append_assoc (exprs_under s (at ∷ [])) (exprs_under s ps) rest)

  -- children in turn are the tasks of their calls
  pub future_turn : (h k const_frames frames : Chain) (cs : List Call) (ts : List Task) →
      exprs_under s (map (child_in_context h k) (in_turn s const_frames frames cs)) ++ future s chain
      ((open_frames_of_calls (open_frames s) cs ++ frames) ++ h) (const_frames ++ k) ts
      ≡ future s chain (frames ++ h) (const_frames ++ k) (tasks_of cs ++ ts)
  unfolding future
  future_turn h k const_frames frames [] ts = none _
  future_turn h k const_frames frames (OnExpr x ∷ cs) ts =
      let l = open_frames s (NodeId.Expr x) in
      let K = const_frames ++ k in
      let ps = map (child_in_context h k) (in_turn s const_frames (l ++ frames) cs) in
      head (in_context (NodeId.Expr x) (frames ++ h) K) ps _
      ∙ ap (λ (qs : List InContext). exprs_under s (in_context (NodeId.Expr x) (frames ++ h) K ∷ []) ++ qs)
      (ap (λ (c : Chain). exprs_under s ps ++ future s chain (c ++ h) K ts)
      (append_assoc (open_frames_of_calls (open_frames s) cs) l frames)
      ∙ (future_turn h k const_frames (l ++ frames) cs ts ∙ ap (λ (c : Chain). future s chain c K (tasks_of cs ++ ts))
      (append_assoc l frames h)))
  future_turn h k const_frames frames (OnAnonConst x ∷ cs) ts =
      search (rules, head, append_assoc, future_turn h k const_frames frames cs ts)
  future_turn h k const_frames frames (OnPat x ∷ cs) ts =
      let l = open_frames s (NodeId.Pat x) in
      let K = const_frames ++ k in
      let ps = map (child_in_context h k) (in_turn s const_frames (l ++ frames) cs) in
      head (in_context (NodeId.Pat x) (frames ++ h) K) ps _
      ∙ ap (λ (qs : List InContext). exprs_under s (in_context (NodeId.Pat x) (frames ++ h) K ∷ []) ++ qs)
      (ap (λ (c : Chain). exprs_under s ps ++ future s chain (c ++ h) K ts)
      (append_assoc (open_frames_of_calls (open_frames s) cs) l frames)
      ∙ (future_turn h k const_frames (l ++ frames) cs ts ∙ ap (λ (c : Chain). future s chain c K (tasks_of cs ++ ts))
      (append_assoc l frames h)))
  future_turn h k const_frames frames (OnType x ∷ cs) ts = search (rules, head, append_assoc, future_turn h k const_frames frames cs ts)
  future_turn h k const_frames frames (OnLifetime x ∷ cs) ts = search (rules, append_assoc, future_turn h k const_frames frames cs ts)

  -- the same, on nothing
  pub turn_bare : (h k : Chain) (cs : List Call) (ts : List Task) →
      exprs_under s (map (child_in_context h k) (in_turn s [] [] cs)) ++ future s chain
      (open_frames_of_calls (open_frames s) cs ++ h) k ts ≡ future s chain h k (tasks_of cs ++ ts)
  turn_bare h k cs ts = grind (arith, common_steps, append-nil (open_frames_of_calls (open_frames s) cs), future_turn h k [] [] cs ts)

  -- the same, where what is added ends with them
  pub turn_ended : (h k const_frames frames : Chain) (cs : List Call) (a : CurrentScopes) (ts : List Task) →
      chain a.scope ≡ h → chain a.const_scope ≡ k →
      exprs_under s (map (child_in_context h k) (in_turn s const_frames frames cs)) ++ future s chain h k ts
      ≡ future s chain (frames ++ h) (const_frames ++ k) ((tasks_of cs ++ leave a ∷ []) ++ ts)
  unfolding future
  turn_ended h k const_frames frames cs a ts eh ek =
      grind (arith, common_steps, future_turn h k const_frames frames cs (leave a ∷ ts), append_assoc (tasks_of cs) (leave a ∷ []) ts)

  -- what is added first may be part of what is around
  moved : (h k const_frames outer frames : Chain) (cs : List Call) →
      map (child_in_context h k) (in_turn s const_frames (frames ++ outer) cs)
      ≡ map (child_in_context (outer ++ h) k) (in_turn s const_frames frames cs)
  moved h k const_frames outer frames [] = refl
  moved h k const_frames outer frames (OnExpr x ∷ cs) =
      let l = open_frames s (NodeId.Expr x) in
      let r =
      ap (λ (c : Chain). map (child_in_context h k) (in_turn s const_frames c cs)) (sym (append_assoc l frames outer))
      ∙ moved h k const_frames outer (l ++ frames) cs in
      ap (λ (c : Chain). in_context (NodeId.Expr x) c (const_frames ++ k) ∷ map (child_in_context h k)
      (in_turn s const_frames (l ++ (frames ++ outer)) cs)) (append_assoc frames outer h)
      ∙ ap (λ (ps : List InContext). in_context (NodeId.Expr x) (frames ++ (outer ++ h)) (const_frames ++ k) ∷ ps) r
  moved h k const_frames outer frames (OnAnonConst x ∷ cs) = search (rules, moved h k const_frames outer frames cs)
  moved h k const_frames outer frames (OnPat x ∷ cs) =
      let l = open_frames s (NodeId.Pat x) in
      let r =
      ap (λ (c : Chain). map (child_in_context h k) (in_turn s const_frames c cs)) (sym (append_assoc l frames outer))
      ∙ moved h k const_frames outer (l ++ frames) cs in
      ap (λ (c : Chain). in_context (NodeId.Pat x) c (const_frames ++ k) ∷ map (child_in_context h k)
      (in_turn s const_frames (l ++ (frames ++ outer)) cs)) (append_assoc frames outer h)
      ∙ ap (λ (ps : List InContext). in_context (NodeId.Pat x) (frames ++ (outer ++ h)) (const_frames ++ k) ∷ ps) r
  moved h k const_frames outer frames (OnType x ∷ cs) = search (rules, moved h k const_frames outer frames cs)
  moved h k const_frames outer frames (OnLifetime x ∷ cs) = moved h k const_frames outer frames cs

  pub future_arm_task : (h k : Chain) (pat expr : ℕ) (guard : Option ℕ) (ts : List Task) →
      future s chain h k (arm_task (arm_with pat expr guard) ∷ ts)
      ≡ exprs_under s (map (child_in_context h k) (arm_child_contexts s [] (arm_with pat expr guard)))
      ++ future s chain h k ts
  unfolding future
  future_arm_task h k pat expr None ts = refl
  future_arm_task h k pat expr (Some guard) ts = refl

  future_arms : (h k outer : Chain) (arms : List MatchArm) (ts : List Task) →
      exprs_under s (map (child_in_context h k) (flat_map (arm_child_contexts s outer) arms)) ++ future s chain
      (outer ++ h) k ts ≡ future s chain (outer ++ h) k (flat_map one_arm arms ++ ts)
  unfolding future
  future_arms h k outer [] ts = none _
  future_arms h k outer (arm ∷ arms) ts =
      two h k (arm_child_contexts s outer arm) (flat_map (arm_child_contexts s outer) arms) _
      ∙ (ap (λ (ps : List InContext). exprs_under s (map (child_in_context h k) (arm_child_contexts s outer arm))
      ++ ps) (future_arms h k outer arms ts)
      ∙ (ap (λ (ps : List InContext). exprs_under s ps ++ future s chain (outer ++ h) k (flat_map one_arm arms ++ ts))
      (moved h k [] outer (frame s (arm.pat ∷ []) ∷ []) (met_in_arm arm))
      ∙ sym (future_arm_task (outer ++ h) k arm.pat arm.expr arm.guard (flat_map one_arm arms ++ ts))))

  -- a type leaves no frame open
  open_frames_let : (ty x y : Option ℕ) → open_frames_of_calls (open_frames s) (opt t ty ++ opt e x ++ opt e y)
      ≡ open_frames_of_calls (open_frames s) (opt e x ++ opt e y)
  open_frames_let None x y = refl
  open_frames_let (Some ty) x y = append-nil (open_frames_of_calls (open_frames s) (opt e x ++ opt e y))

  let_chain : (l : Chain) (f : Frame) (c a h : Chain) → ((l ++ (f ∷ c)) ++ a) ++ h ≡ l ++ (f ∷ ((c ++ a) ++ h))
  let_chain l f c a h = ap (λ (x : Chain). x ++ h) (append_assoc l (f ∷ c) a) ∙ append_assoc l (f ∷ (c ++ a)) h

  future_statement : (h k const_frames frames : Chain) (x : Statement) (ts : List Task) →
      exprs_under s (map (child_in_context h k) (statement_child_contexts s const_frames frames x)) ++ future s chain
      ((frames_after s x ++ frames) ++ h) ((const_frames_after x ++ const_frames) ++ k) ts
      ≡ future s chain (frames ++ h) (const_frames ++ k) (statement_tasks x ++ ts)
  unfolding future
  future_statement h k const_frames frames (Statement.Let pat ty x y) ts =
      let cs = opt t ty ++ opt e x ++ opt e y in
      let ls = open_frames_of_calls (open_frames s) (opt e x ++ opt e y) in
      let f = frame s (pat ∷ []) in
      let K = const_frames ++ k in
      two h k (in_turn s const_frames frames cs) (in_turn s const_frames (f ∷ (ls ++ frames)) (p pat)) _
      ∙ (ap (λ (c : Chain). exprs_under s (map (child_in_context h k) (in_turn s const_frames frames cs))
      ++ (exprs_under s (in_context (NodeId.Pat pat) (f ∷ ((ls ++ frames) ++ h)) K ∷ []) ++ future s chain c K ts))
      (let_chain (open_frames s (NodeId.Pat pat)) f ls frames h)
      ∙ (ap (λ (c : Chain). exprs_under s (map (child_in_context h k) (in_turn s const_frames frames cs))
      ++ future s chain ((c ++ frames) ++ h) K (Task.Bound pat ∷ ts)) (sym (open_frames_let ty x y))
      ∙ (future_turn h k const_frames frames cs (Task.Bound pat ∷ ts)
      ∙ ap (λ (us : List Task). future s chain (frames ++ h) K us) (sym (append_assoc (tasks_of cs) (Task.Bound pat ∷ []) ts)))))
  future_statement h k const_frames frames (Statement.Expr x semi) ts = future_turn h k const_frames frames (e x) ts
  future_statement h k const_frames frames (Statement.Item (Item.MacroDef m)) ts = none _
  future_statement h k const_frames frames (Statement.Item Item.Other) ts = none _

  future_block : (h k const_frames frames : Chain) (a : CurrentScopes) (xs : List Statement) (tail : Option ℕ)
      (ts : List Task) → chain a.scope ≡ h → chain a.const_scope ≡ k →
      exprs_under s (map (child_in_context h k) (block_child_contexts s const_frames frames xs tail))
      ++ future s chain h k ts
      ≡ future s chain (frames ++ h) (const_frames ++ k)
      ((flat_map statement_tasks xs ++ (tasks_of (opt e tail) ++ leave a ∷ [])) ++ ts)
  unfolding future
  future_block h k const_frames frames a [] tail ts eh ek = turn_ended h k const_frames frames (opt e tail) a ts eh ek
  future_block h k const_frames frames a (x ∷ xs) tail ts eh ek =
      search (
        rules,
        two,
        future_statement,
        append_assoc,
        future_block h k (const_frames_after x ++ const_frames) (frames_after s x ++ frames) a xs tail ts eh ek,
      )

  -- types see none of what is added
  ret_turn : (frames : Chain) (ret : Option ℕ) (cs : List Call) →
      in_turn s [] [] (opt t ret) ++ in_turn s [] frames cs ≡ in_turn s [] frames (opt t ret ++ cs)
  ret_turn frames None cs = refl
  ret_turn frames (Some x) cs = refl

  closure_turn : (frames : Chain) (types : List (Option ℕ)) (ret : Option ℕ) (cs : List Call) →
      in_turn s [] [] (flat_map (opt t) types ++ opt t ret) ++ in_turn s [] frames cs
      ≡ in_turn s [] frames ((flat_map (opt t) types ++ opt t ret) ++ cs)
  closure_turn frames [] ret cs = ret_turn frames ret cs
  closure_turn frames (None ∷ types) ret cs = closure_turn frames types ret cs
  closure_turn frames (Some x ∷ types) ret cs = search (rules, closure_turn frames types ret cs)

  -- what is inside a node is its tasks
  pub future_form : (a : CurrentScopes) (x : ScopingForm) (ts : List Task) → let h = chain a.scope in
      let k = chain a.const_scope in
      exprs_under s (map (child_in_context h k) (child_contexts_of_form s x)) ++ future s chain
      (open_frames_of_form s (open_frames s) x ++ h) k ts
      ≡ future s chain (opened_frames s x ++ h) (opened_const_frames x ++ k) (form_tasks a x ++ ts)
  unfolding future
  future_form a (form.If c y f) ts =
      let h = chain a.scope in
      let k = chain a.const_scope in
      two h k (in_turn s [] (empty ∷ []) (e c ++ e y)) (in_turn s [] [] (opt e f)) _
      ∙ (ap (λ (ps : List InContext). exprs_under s
      (map (child_in_context h k) (in_turn s [] (empty ∷ []) (e c ++ e y))) ++ ps) (turn_bare h k (opt e f) ts)
      ∙ future_turn h k [] (empty ∷ []) (e c ++ e y) (leave a ∷ (tasks_of (opt e f) ++ ts)))
  future_form a (form.Let pat x) ts = search (rules, head, append_assoc)
  future_form a (form.Block id label xs tail) ts = search (rules, future_block)
  future_form a (form.Loop label body) ts = search (rules, turn_ended)
  future_form a (form.Closure types ret args body) ts = search (rules, closure_turn, turn_ended)
  future_form a (form.Match x arms) ts =
      let h = chain a.scope in
      let k = chain a.const_scope in
      let l = open_frames s (NodeId.Expr x) in
      two h k (in_turn s [] [] (e x)) (flat_map (arm_child_contexts s l) arms) _
      ∙ ap (λ (ps : List InContext). exprs_under s (in_context (NodeId.Expr x) h k ∷ []) ++ ps) (future_arms h k l arms ts)
  future_form a (form.Assignment target value) ts = search (rules, head)
  future_form a (form.PatternType ty pat) ts = search (rules, head)
  future_form a (form.InTurn cs) ts = turn_bare (chain a.scope) (chain a.const_scope) cs ts

-- 2. The entry nodes of a body and of a signature: which nodes they are, and that the tasks of a walk over
-- them visit their descendants.

nodes_of_contexts : (h k : Chain) (xs : List ChildContext) →
    map (λ (at : InContext). at.node) (map (child_in_context h k) xs) ≡ children_in xs
nodes_of_contexts h k [] = refl
nodes_of_contexts h k (x ∷ xs) = ap (λ (ns : List NodeId). x.child ∷ ns) (nodes_of_contexts h k xs)

pub top_children : (formals : List ℕ) (last : Option ℕ) → children (flat_map p formals ++ opt e last)
    ≡ map NodeId.Pat formals ++ option_to_list (option_map NodeId.Expr last)
top_children [] None = refl
top_children [] (Some root) = refl
top_children (x ∷ formals) last = ap (λ (ns : List NodeId). NodeId.Pat x ∷ ns) (top_children formals last)

-- Bodies

pub body_top_nodes : (s : Nodes) (self : Option ℕ) (formals : List ℕ) (last : Option ℕ) →
    map (λ (at : InContext). at.node) (body_entry_nodes s self formals last)
    ≡ map NodeId.Pat formals ++ option_to_list (option_map NodeId.Expr last)
unfolding body_entry_nodes
body_top_nodes s self formals last = search (rules, nodes_of_contexts, turn_children, top_children)

-- what is still to do at first is what is under the entry nodes
pub body_future : (s : Nodes) (chain : ℕ → Chain) (self : Option ℕ) (formals : List ℕ) (last : Option ℕ) →
    let root = root_frame s self formals ∷ [] in
    future s chain root root (tasks_of (flat_map p formals ++ opt e last))
    ≡ exprs_under s (body_entry_nodes s self formals last)
unfolding body_entry_nodes future
body_future s chain self formals last =
    let root = root_frame s self formals ∷ [] in
    let cs = flat_map p formals ++ opt e last in
    ap (λ (ts : List Task). future s chain root root ts) (sym (append-nil (tasks_of cs)))
    ∙ (sym (future_turn s chain [] [] root root cs [])
    ∙ append-nil (exprs_under s (map (child_in_context [] []) (in_turn s root root cs))))

-- Signatures

pub signature_top_nodes : (roots : List ℕ) → map (λ (at : InContext). at.node) (signature_entry_nodes roots) ≡ map NodeId.Expr roots
unfolding signature_entry_nodes
signature_top_nodes [] = refl
signature_top_nodes (root ∷ roots) = ap (λ (ns : List NodeId). NodeId.Expr root ∷ ns) (signature_top_nodes roots)

pub signature_future : (s : Nodes) (chain : ℕ → Chain) (scope const_scope : Chain) (roots : List ℕ) → chain 0 ≡ empty ∷ [] →
    future s chain scope const_scope (map Task.Root roots) ≡ exprs_under s (signature_entry_nodes roots)
unfolding signature_entry_nodes future
signature_future s chain scope const_scope [] h = sym (exprs_under-nil s)
signature_future s chain scope const_scope (root ∷ roots) h =
    let c = empty ∷ empty ∷ [] in
    let first = λ (x : Chain). exprs_under s (in_context (NodeId.Expr root) x x ∷ []) in
    let rest = λ (x : Chain). future s chain (open_frames s (NodeId.Expr root) ++ x) x (map Task.Root roots) in
    ap (λ (x : Chain). first (empty ∷ x) ++ rest (empty ∷ x)) h
    ∙ (ap (λ (ps : List InContext). first c ++ ps) (signature_future s chain (open_frames s (NodeId.Expr root) ++ c) c roots h)
    ∙ sym (exprs_under-append s (in_context (NodeId.Expr root) c c ∷ []) (signature_entry_nodes roots)))
