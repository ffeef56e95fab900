-- The child contexts of a node follow the order in which scopes are made; its calls in that order, and its tasks, are
-- about its children, each once.
use Rattle.std.proofs.Common.{◌≡◌, ℕ, List, [], ◌∷◌, ◌++◌, map, refl, sym, ap, ◌∙◌, append_assoc, Option, Some, None, subst, rules}
use Rattle.std.proofs.lemmas.{List.map-append, List.append-nil, List.Concat.flat_map-append}
use Rattle.std.proofs.lemmas.List.Sorted.{IsPermutation-refl, IsPermutation-trans, IsPermutation-append_comm, IsPermutation-append_left}
use Rattle.std.proofs.lemmas.List.Sorted.{IsPermutation-append_right}
use Rattle.std.specs.{List.slice_get, List.flat_map, List.Sorted.IsPermutation}
use Rattle.hir_node.specs.ChildCalls.{Call, OnLifetime, e, p, t, opt, child, children, arm_calls, statement_calls, expr_calls, pat_calls}
use Rattle.hir_node.specs.ChildCalls.{type_calls}
use Rattle.hir_node.specs.declared.expr.Expr.{Expr}
use Rattle.hir_node.specs.declared.expr_types.{Item.Item, MatchArm.MatchArm, Statement.Statement}
use Rattle.hir_node.specs.declared.{node_id.NodeId.NodeId, type_ref.TypeRef.TypeRef}
use Rattle.hir_validate.specs.Nodes.{calls_of, children_of}
use Rattle.hir_validate.specs.declared.node_arenas.Nodes.{Nodes}
use Rattle.hir_scope.specs.ScopingForms.{ScopingForm, form_at, form_of, expr_form, pat_form, type_form}
use Rattle.hir_scope.specs.ScopingForms as form
use Rattle.hir_scope.specs.Frames.{Chain, frame, empty, of_kind}
use Rattle.hir_scope.specs.OpenFrames.{open_frames, open_frames_of_call}
use Rattle.hir_scope.specs.Order.{met_in_statement, met_in_arm, met_in_form, met_in_closure}
use Rattle.hir_scope.specs.ChildContexts.{Base, ChildContext, child_with_base, children_with_base, call_child_context, in_turn, own_frame}
use Rattle.hir_scope.specs.ChildContexts.{block_const_frames, frames_after, const_frames_after, statement_child_contexts}
use Rattle.hir_scope.specs.ChildContexts.{block_child_contexts, arm_child_contexts, loop_kind, child_contexts_of_form, child_contexts}
use Rattle.hir_scope.specs.declared.tasks.CurrentScopes.{CurrentScopes}
use Rattle.hir_scope.specs.declared.tasks.Task.{Task}
use Rattle.hir_scope.specs.internal.WalkState.{about}
use Rattle.hir_scope.specs.internal.Pending.{tasks_of, one_arm, guarded_task, leave, statement_tasks, form_tasks, task_children}

-- 1. The child contexts of a node follow the order in which scopes are made; its calls in that order are its child calls, each once.

-- The calls in another order

data IsShuffle : List Call → List Call → Type 0 where
  same : {xs : List Call} → IsShuffle xs xs
  swapped : (xs ys : List Call) → IsShuffle (xs ++ ys) (ys ++ xs)
  both : {xs us ys vs : List Call} → IsShuffle xs us → IsShuffle ys vs → IsShuffle (xs ++ ys) (us ++ vs)
  again : {xs ys zs : List Call} → IsShuffle xs ys → IsShuffle ys zs → IsShuffle xs zs

all_shuffled : {X : Type 0} (f g : X → List Call) → ((x : X) → IsShuffle (f x) (g x)) → (xs : List X) →
    IsShuffle (flat_map f xs) (flat_map g xs)
all_shuffled f g h [] = same
all_shuffled f g h (x ∷ xs) = both (h x) (all_shuffled f g h xs)

statement_shuffled : (x : Statement) → IsShuffle (statement_calls x) (met_in_statement x)
statement_shuffled (Statement.Let pat ty x y) =
    let bound : List Call = opt e x ++ opt e y ++ p pat in
    let old : bound ++ opt t ty ≡ statement_calls (Statement.Let pat ty x y) = simp append_assoc in
    let new : opt t ty ++ bound ≡ met_in_statement (Statement.Let pat ty x y) = simp append_assoc in
    subst (λ cs. IsShuffle cs (met_in_statement (Statement.Let pat ty x y))) old
    (subst (IsShuffle (bound ++ opt t ty)) new (swapped bound (opt t ty)))
statement_shuffled _ = same

arm_shuffled : (pat : ℕ) (guard : Option ℕ) (x : ℕ) → IsShuffle (e x ++ opt e guard ++ p pat) (p pat ++ opt e guard ++ e x)
arm_shuffled pat None x = swapped (e x) (p pat)
arm_shuffled pat (Some g) x = again (swapped (e x) (e g ++ p pat)) (both (swapped (e g) (p pat)) (same {xs = e x}))

closure_shuffled : (b a types ret : List Call) → IsShuffle (((b ++ a) ++ types) ++ ret) ((types ++ ret) ++ (a ++ b))
closure_shuffled b a types ret =
    let P : List Call → Type 0 = λ cs. IsShuffle cs ((types ++ ret) ++ (a ++ b)) in
    subst P (sym (append_assoc (b ++ a) types ret))
    (again (swapped (b ++ a) (types ++ ret)) (both (same {xs = types ++ ret}) (swapped b a)))

expr_shuffled : (x : Expr) → IsShuffle (expr_calls x) (met_in_form (expr_form x))
expr_shuffled (Expr.If c y None) = same
expr_shuffled (Expr.If c y (Some f)) = same
expr_shuffled (Expr.Let pat x) = swapped (p pat) (e x)
expr_shuffled (Expr.Block id xs tail label unsafe_) =
    both (all_shuffled statement_calls met_in_statement statement_shuffled xs) (same {xs = opt e tail})
expr_shuffled (Expr.Closure args arg_types ret_type body kind by) = search (rules, closure_shuffled)
expr_shuffled (Expr.Match x arms) =
    both (same {xs = e x}) (all_shuffled arm_calls met_in_arm (λ arm. arm_shuffled arm.pat arm.guard arm.expr) arms)
expr_shuffled _ = same

type_shuffled : (x : TypeRef) → IsShuffle (type_calls x) (met_in_form (type_form x))
type_shuffled (TypeRef.PatternType ty pat) = same
type_shuffled _ = same

at_shuffled : {X : Type 0} (calls : X → List Call) (forms : X → ScopingForm) →
    ((x : X) → IsShuffle (calls x) (met_in_form (forms x))) → (found : Option X) →
    IsShuffle (opt calls found) (met_in_form (form_at forms found))
at_shuffled calls forms h None = same
at_shuffled calls forms h (Some x) = h x

calls_shuffled : (s : Nodes) (n : NodeId) → IsShuffle (calls_of s n) (met_in_form (form_of s n))
calls_shuffled s (NodeId.Expr id) = at_shuffled expr_calls expr_form expr_shuffled (slice_get s.exprs id)
calls_shuffled s (NodeId.Pat id) = at_shuffled pat_calls pat_form (λ x. same) (slice_get s.pats id)
calls_shuffled s (NodeId.TypeRef id) = at_shuffled type_calls type_form type_shuffled (slice_get s.types id)

-- a permutation of lists that are written in another way
in_parts : {xs ys us vs : List NodeId} → xs ≡ us → ys ≡ vs → IsPermutation us vs → IsPermutation xs ys
in_parts {ys = ys} {us = us} a b h = subst (λ ns. IsPermutation ns ys) (sym a) (subst (IsPermutation us) (sym b) h)

children_shuffled : {xs ys : List Call} → IsShuffle xs ys → IsPermutation (children xs) (children ys)
children_shuffled (same {xs}) = IsPermutation-refl (children xs)
children_shuffled (swapped xs ys) = search (rules, in_parts, flat_map-append, IsPermutation-append_comm)
children_shuffled (both {xs} {us} {ys} {vs} f g) =
    in_parts (flat_map-append child xs ys) (flat_map-append child us vs)
    (IsPermutation-trans (children xs ++ children ys) (children us ++ children ys) (children us ++ children vs)
    (IsPermutation-append_left (children ys) (children xs) (children us) (children_shuffled f))
    (IsPermutation-append_right (children us) (children ys) (children vs) (children_shuffled g)))
children_shuffled (again {xs} {ys} {zs} f g) = search (rules, IsPermutation-trans, children_shuffled f, children_shuffled g)

-- the children in the order in which scopes are made
pub met_children : (s : Nodes) (n : NodeId) → IsPermutation (children_of s n) (children (met_in_form (form_of s n)))
met_children s n = children_shuffled (calls_shuffled s n)

-- The child contexts follow that order

abbrev contexts : List ChildContext → List (NodeId × Base)
contexts xs = map child_with_base xs

abbrev of_calls : List Call → List (NodeId × Base)
of_calls cs = flat_map children_with_base cs

two : (xs ys : List ChildContext) (cs ds : List Call) → contexts xs ≡ of_calls cs → contexts ys ≡ of_calls ds →
    contexts (xs ++ ys) ≡ of_calls (cs ++ ds)
two xs ys cs ds f g = map-append child_with_base xs ys ∙ (let m = flat_map-append children_with_base cs ds in cc)

of_call : (const_frames frames : Chain) (c : Call) → contexts (call_child_context const_frames frames c) ≡ children_with_base c
of_call const_frames frames (OnLifetime id) = refl
of_call const_frames frames _ = refl

module _ (s : Nodes) where
  of_turn : (const_frames frames : Chain) (cs : List Call) → contexts (in_turn s const_frames frames cs) ≡ of_calls cs
  of_turn const_frames frames [] = refl
  of_turn const_frames frames (c ∷ cs) =
      search (rules, map-append, of_call, of_turn const_frames (open_frames_of_call (open_frames s) c ++ frames) cs)

  two_turns : (const_frames k frames more : Chain) (cs ds : List Call) →
      contexts (in_turn s const_frames frames cs ++ in_turn s k more ds) ≡ of_calls (cs ++ ds)
  two_turns const_frames k frames more cs ds = search (rules, two, of_turn)

  of_arms : (frames : Chain) (arms : List MatchArm) → contexts (flat_map (arm_child_contexts s frames) arms)
      ≡ of_calls (flat_map met_in_arm arms)
  of_arms frames [] = refl
  of_arms frames (arm ∷ arms) = search (rules, two, of_turn, of_arms frames arms)

  of_statement : (const_frames frames : Chain) (x : Statement) →
      contexts (statement_child_contexts s const_frames frames x) ≡ of_calls (met_in_statement x)
  of_statement const_frames frames (Statement.Let pat ty x y) = search (rules, two_turns)
  of_statement const_frames frames (Statement.Expr x semi) = of_turn const_frames frames (e x)
  of_statement const_frames frames (Statement.Item x) = refl

  of_block : (const_frames frames : Chain) (xs : List Statement) (tail : Option ℕ) →
      contexts (block_child_contexts s const_frames frames xs tail)
      ≡ of_calls (flat_map met_in_statement xs ++ opt e tail)
  of_block const_frames frames [] tail = of_turn const_frames frames (opt e tail)
  of_block const_frames frames (x ∷ xs) tail =
      search (rules, two, of_statement, append_assoc, of_block (const_frames_after x ++ const_frames) (frames_after s x ++ frames) xs tail)

  contexts_of_form : (x : ScopingForm) → contexts (child_contexts_of_form s x) ≡ of_calls (met_in_form x)
  contexts_of_form (form.If c y o) = two_turns [] [] (empty ∷ []) [] (e c ++ e y) (opt e o)
  contexts_of_form (form.Let pat x) = two_turns [] [] [] (frame s (pat ∷ []) ∷ open_frames s (NodeId.Expr x)) (e x) (p pat)
  contexts_of_form (form.Block id label xs tail) = of_block (block_const_frames id) (own_frame id label ∷ []) xs tail
  contexts_of_form (form.Loop label body) = of_turn [] (of_kind (loop_kind label) ∷ []) (e body)
  contexts_of_form (form.Closure types ret args body) = search (rules, two_turns)
  contexts_of_form (form.Match x arms) = search (rules, two, of_turn, of_arms)
  contexts_of_form (form.Assignment target value) = two_turns [] [] (frame s (target ∷ []) ∷ []) [] (p target) (e value)
  contexts_of_form (form.PatternType ty pat) = two_turns [] [] [] (frame s (pat ∷ []) ∷ []) (t ty) (p pat)
  contexts_of_form (form.InTurn cs) = of_turn [] [] cs

  pub child_contexts_follow : (n : NodeId) → map child_with_base (child_contexts s n)
      ≡ flat_map children_with_base (met_in_form (form_of s n))
  unfolding child_contexts
  child_contexts_follow n = contexts_of_form (form_of s n)

-- Their children

abbrev pub children_in : List ChildContext → List NodeId
children_in xs = map (λ (x : ChildContext). x.child) xs

children_of_contexts : (xs : List ChildContext) → children_in xs ≡ map (λ (k : NodeId × Base). k.0) (contexts xs)
children_of_contexts [] = refl
children_of_contexts (x ∷ xs) = ap (λ (ns : List NodeId). x.child ∷ ns) (children_of_contexts xs)

children_of_calls : (cs : List Call) → map (λ (k : NodeId × Base). k.0) (of_calls cs) ≡ children cs
children_of_calls [] = refl
children_of_calls (OnLifetime id ∷ cs) = children_of_calls cs
children_of_calls (c ∷ cs) = ap (λ (ns : List NodeId). child c ++ ns) (children_of_calls cs)

in_children : (xs : List ChildContext) (cs : List Call) → contexts xs ≡ of_calls cs → children_in xs ≡ children cs
in_children xs cs h = children_of_contexts xs ∙ (ap (map (λ (k : NodeId × Base). k.0)) h ∙ children_of_calls cs)

pub turn_children : (s : Nodes) (const_frames frames : Chain) (cs : List Call) →
    children_in (in_turn s const_frames frames cs) ≡ children cs
turn_children s const_frames frames cs = in_children (in_turn s const_frames frames cs) cs (of_turn s const_frames frames cs)

pub children_of_form : (s : Nodes) (x : ScopingForm) → children_in (child_contexts_of_form s x) ≡ children (met_in_form x)
children_of_form s x = in_children (child_contexts_of_form s x) (met_in_form x) (contexts_of_form s x)

-- the children of a node's child contexts are its children
pub child_contexts_children : (s : Nodes) (n : NodeId) → IsPermutation (children_of s n) (children_in (child_contexts s n))
unfolding child_contexts
child_contexts_children s n = subst (IsPermutation (children_of s n)) (sym (children_of_form s (form_of s n))) (met_children s n)

-- 2. The tasks of what is inside a node are about its children, each once.

pub about_calls : (cs : List Call) → about (tasks_of cs) ≡ children cs
about_calls [] = refl
about_calls (OnLifetime x ∷ cs) = about_calls cs
about_calls (c ∷ cs) = ap (λ (ns : List NodeId). child c ++ ns) (about_calls cs)

two_about : (xs ys : List Task) (cs ds : List Call) → about xs ≡ children cs → about ys ≡ children ds →
    about (xs ++ ys) ≡ children (cs ++ ds)
two_about xs ys cs ds f g = flat_map-append task_children xs ys ∙ (let m = flat_map-append child cs ds in cc)

-- a task of no node after them changes nothing
left_after : (cs : List Call) (a : CurrentScopes) → about (tasks_of cs ++ leave a ∷ []) ≡ children cs
left_after cs a = flat_map-append task_children (tasks_of cs) (leave a ∷ []) ∙ (append-nil (about (tasks_of cs)) ∙ about_calls cs)

about_statement : (x : Statement) → about (statement_tasks x) ≡ children (met_in_statement x)
about_statement (Statement.Let pat ty x y) = search (rules, two_about, about_calls)
about_statement (Statement.Expr x semi) = refl
about_statement (Statement.Item (Item.MacroDef id)) = refl
about_statement (Statement.Item Item.Other) = refl

about_statements : (xs : List Statement) → about (flat_map statement_tasks xs) ≡ children (flat_map met_in_statement xs)
about_statements [] = refl
about_statements (x ∷ xs) = search (rules, two_about, about_statement, about_statements xs)

about_guarded : (pat expr : ℕ) (guard : Option ℕ) → task_children (guarded_task pat expr guard) ≡ children (p pat ++ opt e guard ++ e expr)
about_guarded pat expr None = refl
about_guarded pat expr (Some guard) = refl

about_arms : (arms : List MatchArm) → about (flat_map one_arm arms) ≡ children (flat_map met_in_arm arms)
about_arms [] = refl
about_arms (arm ∷ arms) = search (rules, about_guarded, flat_map-append, about_arms arms)

-- the tasks of what is inside a node are about its children, in the order of its child contexts
pub about_form : (a : CurrentScopes) (x : ScopingForm) → about (form_tasks a x) ≡ children (met_in_form x)
about_form a (form.If c y f) = search (rules, two_about, about_calls)
about_form a (form.Block id label xs tail) = search (rules, two_about, about_statements, left_after)
about_form a (form.Closure types ret args body) = left_after (met_in_closure types ret args body) a
about_form a (form.Match x arms) = ap (λ (ns : List NodeId). NodeId.Expr x ∷ ns) (about_arms arms)
about_form a (form.InTurn cs) = about_calls cs
about_form a _ = refl
