-- Nodes in which only names differ: the frames, the open frames and the child_contexts of each node are the same, with the entries renamed.
use Rattle.std.proofs.Common.{◌≡◌, ℕ, zero, suc, List, [], ◌∷◌, ◌++◌, Option, Some, None, Bool, false, cond, map, refl, sym, ap, ◌∙◌, rules}
use Rattle.std.proofs.Common.{Contains, subst, length, fold, nat_eq, arith}
use Rattle.std.proofs.Math.{Path.fun_ext, Dec.eqb-suc-suc, Dec.eqb-suc-zero, Dec.eqb-zero-suc}
use Rattle.std.proofs.lemmas.{List.map-append, Option.slice_get-map}
use Rattle.std.specs.List.{flat_map, slice_get}
use Rattle.std.specs.Option.{option_map}
use Rattle.hir_path.specs.declared.ids.ExprOrPatId.{ExprOrPatId}
use Rattle.hir_path.specs.declared.ids.ExprOrPatId.TheVariants.{ExprId, PatId}
use Rattle.hir_path.specs.declared.path.Path.{Path}
use Rattle.hir_node.specs.ChildCalls.{Call, OnExpr, OnAnonConst, OnPat, OnType, OnLifetime, e, p, t, opt, children, expr_calls, pat_calls}
use Rattle.hir_node.specs.ChildCalls.{type_calls, pat_of_call}
use Rattle.hir_node.specs.OtherIds.{pat_bindings}
use Rattle.hir_node.specs.declared.{binding.Binding.Binding, expr.Expr.Expr, pat.Pat.Pat, node_id.NodeId.NodeId, type_ref.TypeRef.TypeRef}
use Rattle.hir_node.specs.declared.expr_types.{Item.Item, MatchArm.MatchArm, Statement.Statement}
use Rattle.hir_validate.specs.declared.sizes.Sizes.{Sizes}
use Rattle.hir_validate.specs.Recursion.{rank, fold_down, fold_down_within}
use Rattle.hir_validate.specs.{declared.node_arenas.Nodes.Nodes, Nodes.sizes_of, Nodes.calls_of, Nodes.children_of, Nodes.graph}
use Rattle.hir_validate.specs.{Sizes.place, Sizes.places, TestedParts.all_of}
use Rattle.hir_forest.specs.Height.{height}
use Rattle.hir_store_core.specs.PatLinks.{children_at}
use Rattle.hir_store_core.specs.PatLists.{pats_step, pats, bindings_at, bindings_in}
use Rattle.hir_scope.specs.Chains.{InContext, child_in_context, children_in_context, on_base, within_own, Occurs, entry_node, child}
use Rattle.hir_scope.specs.Chains.{HasChain}
use Rattle.hir_scope.specs.ScopingForms.{ScopingForm, form_at, form_of, expr_form, pat_form, type_form}
use Rattle.hir_scope.specs.ScopingForms as form
use Rattle.hir_scope.specs.Frames.{Frame, Chain, entry_of, entry_at, binds, frame_with, frame, empty, of_kind}
use Rattle.hir_scope.specs.OpenFrames.{open_frames, open_frames_of_calls, open_frames_step, open_frames_of_call, open_frames_of_form}
use Rattle.hir_scope.specs.ChildContexts.{Base, Scope, ConstScope, ChildContext, call_child_context, in_turn, own_frame}
use Rattle.hir_scope.specs.ChildContexts.{block_const_frames, item_frames, frames_after, const_frames_after, statement_child_contexts}
use Rattle.hir_scope.specs.ChildContexts.{block_child_contexts, arm_child_contexts, loop_kind, child_contexts_of_form, child_contexts}
use Rattle.hir_scope.specs.EntryNodes.{root_frame, body_entry_nodes}
use Rattle.hir_scope.specs.declared.scope.{ScopeEntry.ScopeEntry, ScopeKind.ScopeKind}
use Rattle.std.specs.FinMap as finmap
use Rattle.hir_body.specs.{Bodies.BodyContents, Bodies.formals_of, Bodies.last_root, declared.formals.Param.Param}
use Rattle.hir_scope.specs.{BodyScopes.ChainsAreFrames, BodyScopes.entry_nodes_of_body, Paths.chain, Scopes.Scopes}
use Rattle.hir_usages.specs.Renames.{renamed_entry, renamed_chain}
use Rattle.hir_usages.specs.Renamed.{change_at, renamed_expr, renamed_pat, renamed_binding, rename_path, rename_binding, renamed_nodes}
use Rattle.hir_usages.specs.Renamed.{renamed_body}
use Rattle.hir_usages.specs.{Usages.usages_of, Usages.usages_of_body, declared.usage.Usage.Usage}
use Rattle.std.proofs.lemmas.Grind.{common_steps}

-- 1. Lists

module _ {X Y : Type 0} where
  same_at : (f : X → Y) (xs ys : List X) → map f xs ≡ map f ys → (i : ℕ) → option_map f (slice_get xs i) ≡ option_map f (slice_get ys i)
  same_at f xs ys h i = sym (slice_get-map f xs i) ∙ (ap (λ (zs : List Y). slice_get zs i) h ∙ slice_get-map f ys i)

module _ {X Y : Type 0} (f : X → Y) where
  mapped : (xs : List X) (x : X) → Contains xs x → Contains (map f xs) (f x)
  mapped [] x m = absurd (omega (arith, m.1))
  mapped (y ∷ xs) x (zero, l, is) = (0, omega arith, ap f is)
  mapped (y ∷ xs) x (suc i, l, is) =
      let m = mapped xs x (i, omega (arith, l), is) in
      (suc m.0, omega (arith, m.1), m.2)

module _ {X A B : Type 0} where
  flat_map_mapped : (f : X → List B) (g : X → List A) (h : A → B) → ((x : X) → f x ≡ map h (g x)) → (xs : List X) →
      flat_map f xs ≡ map h (flat_map g xs)
  flat_map_mapped f g h same [] = refl
  flat_map_mapped f g h same (x ∷ xs) = search (rules, map-append, flat_map_mapped f g h same xs)

form_told : {X : Type 0} (f : X → ScopingForm) (o q : Option X) → option_map f o ≡ option_map f q → form_at f o ≡ form_at f q
form_told f None None h = refl
form_told f None (Some y) h = absurd cc
form_told f (Some x) None h = absurd cc
form_told f (Some x) (Some y) h = ap (λ (o : Option ScopingForm). form_at (λ (z : ScopingForm). z) o) h

calls_told : {X : Type 0} (f : X → List Call) (o q : Option X) → option_map f o ≡ option_map f q → opt f o ≡ opt f q
calls_told f None None h = refl
calls_told f None (Some y) h = absurd cc
calls_told f (Some x) None h = absurd cc
calls_told f (Some x) (Some y) h = ap (λ (o : Option (List Call)). opt (λ (z : List Call). z) o) h

all_told : {X : Type 0} (f : X → List ℕ) (o q : Option X) → option_map f o ≡ option_map f q → all_of f o ≡ all_of f q
all_told f None None h = refl
all_told f None (Some y) h = absurd cc
all_told f (Some x) None h = absurd cc
all_told f (Some x) (Some y) h = ap (λ (o : Option (List ℕ)). all_of (λ (z : List ℕ). z) o) h

-- 2. Nodes that differ in names alone

abbrev pub mapped_frame : (ScopeEntry → ScopeEntry) → Frame → Frame
mapped_frame ren frame = record { kind = frame.kind; entries = map ren frame.entries }

-- a chain in which each entry is changed
abbrev pub mapped_chain : (ScopeEntry → ScopeEntry) → Chain → Chain
mapped_chain ren frames = map (mapped_frame ren) frames

pub record Alike (ren : ScopeEntry → ScopeEntry) (s u : Nodes) : Type 0 where
  pub expr_forms : map expr_form u.exprs ≡ map expr_form s.exprs
  pub expr_calls : map expr_calls u.exprs ≡ map expr_calls s.exprs
  pub pat_forms : map pat_form u.pats ≡ map pat_form s.pats
  pub pat_calls : map pat_calls u.pats ≡ map pat_calls s.pats
  pub pat_bindings : map pat_bindings u.pats ≡ map pat_bindings s.pats
  pub types : u.types ≡ s.types
  pub entries : (id : ℕ) → entry_at u id ≡ map ren (entry_at s id)
  pub sizes : sizes_of u ≡ sizes_of s

abbrev framed : ScopeKind → List ScopeEntry → Frame
framed k es = record { kind = k; entries = es }

module _ (ren : ScopeEntry → ScopeEntry) (s u : Nodes) (a : Alike ren s u) where
  abbrev pub R : Chain → Chain
  R c = mapped_chain ren c

  R_two : (x y : Chain) → R (x ++ y) ≡ R x ++ R y
  R_two x y = map-append (mapped_frame ren) x y

  form_same : (n : NodeId) → form_of u n ≡ form_of s n
  form_same (NodeId.Expr id) = search (rules, form_told, same_at)
  form_same (NodeId.Pat id) = form_told pat_form (slice_get u.pats id) (slice_get s.pats id) (same_at pat_form u.pats s.pats a.pat_forms id)
  form_same (NodeId.TypeRef id) = ap (λ (ts : List TypeRef). form_at type_form (slice_get ts id)) a.types

  calls_same : (n : NodeId) → calls_of u n ≡ calls_of s n
  calls_same (NodeId.Expr id) = search (rules, calls_told, same_at)
  calls_same (NodeId.Pat id) = search (rules, calls_told, same_at)
  calls_same (NodeId.TypeRef id) = ap (λ (ts : List TypeRef). opt type_calls (slice_get ts id)) a.types

  pub children_same : (n : NodeId) → children_of u n ≡ children_of s n
  children_same n = ap children (calls_same n)

  pub graph_same : graph u ≡ graph s
  graph_same = λ i. map (places (a.sizes i)) (a.expr_calls i ++ a.pat_calls i ++ map type_calls (a.types i))

  pub rank_same : (n : NodeId) → rank u n ≡ rank s n
  unfolding rank
  rank_same n = λ i. height (graph_same i) (place (a.sizes i) n)

  pub children_at_same : (q : ℕ) → children_at u.pats q ≡ children_at s.pats q
  children_at_same q = ap (flat_map pat_of_call) (calls_same (NodeId.Pat q))

  -- bindings and frames

  pats_steps : (self : NodeId → List ℕ) (n : NodeId) → pats_step u self n ≡ pats_step s self n
  pats_steps self (NodeId.Pat q) = search (rules, calls_same)
  pats_steps self (NodeId.Expr q) = refl
  pats_steps self (NodeId.TypeRef q) = refl

  pats_same : (q : ℕ) → pats u q ≡ pats s q
  unfolding pats fold_down
  pats_same q =
      let steps : pats_step u ≡ pats_step s = fun_ext (λ self. fun_ext (λ n. pats_steps self n)) in
      λ i. fold_down_within (steps i) [] (suc (rank_same (NodeId.Pat q) i)) (NodeId.Pat q)

  own_same : (q : ℕ) → bindings_at u q ≡ bindings_at s q
  own_same q = all_told pat_bindings (slice_get u.pats q) (slice_get s.pats q) (same_at pat_bindings u.pats s.pats a.pat_bindings q)

  bindings_same : (q : ℕ) → bindings_in u q ≡ bindings_in s q
  bindings_same q = search (rules, fun_ext, own_same, pats_same)

  binds_renamed : (q : ℕ) → binds u q ≡ map ren (binds s q)
  binds_renamed q = ap (flat_map (entry_at u)) (bindings_same q) ∙ flat_map_mapped (entry_at u) (entry_at s) ren a.entries (bindings_in s q)

  frame_renamed : (k : ScopeKind) (ps : List ℕ) → frame_with u k ps ≡ mapped_frame ren (frame_with s k ps)
  frame_renamed k ps = ap (framed k) (flat_map_mapped (binds u) (binds s) ren binds_renamed ps)

  -- open frames

  module _ (L M : NodeId → Chain) (h : (n : NodeId) → L n ≡ R (M n)) where
    call_open_frames : (c : Call) → open_frames_of_call L c ≡ R (open_frames_of_call M c)
    call_open_frames (OnExpr id) = h (NodeId.Expr id)
    call_open_frames (OnPat id) = h (NodeId.Pat id)
    call_open_frames (OnAnonConst id) = refl
    call_open_frames (OnType id) = refl
    call_open_frames (OnLifetime id) = refl

    open_frames_of_calls_renamed : (cs : List Call) → open_frames_of_calls L cs ≡ R (open_frames_of_calls M cs)
    open_frames_of_calls_renamed [] = refl
    open_frames_of_calls_renamed (c ∷ cs) =
        let first = call_open_frames c in
        let rest = open_frames_of_calls_renamed cs in
        (λ i. rest i ++ first i) ∙ sym (R_two (open_frames_of_calls M cs) (open_frames_of_call M c))

    form_open_frames : (f : ScopingForm) → open_frames_of_form u L f ≡ R (open_frames_of_form s M f)
    form_open_frames (form.Let pat x) =
        grind (
          arith,
          common_steps,
          frame_renamed ScopeKind.None (pat ∷ []),
          R_two (M (NodeId.Pat pat)) (frame s (pat ∷ []) ∷ M (NodeId.Expr x)),
        )
    form_open_frames (form.If c y o) = open_frames_of_calls_renamed (opt e o)
    form_open_frames (form.Match x arms) = h (NodeId.Expr x)
    form_open_frames (form.Assignment target x) = h (NodeId.Expr x)
    form_open_frames (form.Block id label xs tail) = refl
    form_open_frames (form.Loop label x) = refl
    form_open_frames (form.Closure types ret args x) = refl
    form_open_frames (form.PatternType ty pat) = refl
    form_open_frames (form.InTurn cs) = open_frames_of_calls_renamed cs

  open_frames_within : (d : ℕ) (n : NodeId) → fold_down_within (open_frames_step u) [] d n
      ≡ R (fold_down_within (open_frames_step s) [] d n)
  open_frames_within zero n = refl
  open_frames_within (suc d) n =
      ap (open_frames_of_form u (fold_down_within (open_frames_step u) [] d)) (form_same n)
      ∙ form_open_frames (fold_down_within (open_frames_step u) [] d) (fold_down_within (open_frames_step s) [] d)
      (open_frames_within d) (form_of s n)

  open_frames_renamed : (n : NodeId) → open_frames u n ≡ R (open_frames s n)
  unfolding open_frames fold_down
  open_frames_renamed n =
      ap (λ (r : ℕ). fold_down_within (open_frames_step u) [] (suc r) n) (rank_same n)
      ∙ open_frames_within (suc (rank s n)) n

  -- child_contexts

  abbrev renamed_context : ChildContext → ChildContext
  renamed_context x = record { child = x.child; base = x.base; frames = R x.frames; const_frames = R x.const_frames }

  abbrev S : List ChildContext → List ChildContext
  S xs = map renamed_context xs

  two : (xs ys vs ws : List ChildContext) → xs ≡ S vs → ys ≡ S ws → xs ++ ys ≡ S (vs ++ ws)
  two xs ys vs ws f g = (λ i. f i ++ g i) ∙ sym (map-append renamed_context vs ws)

  call_renamed : (k add : Chain) (c : Call) → call_child_context (R k) (R add) c ≡ S (call_child_context k add c)
  call_renamed k add (OnExpr id) = refl
  call_renamed k add (OnPat id) = refl
  call_renamed k add (OnAnonConst id) = refl
  call_renamed k add (OnType id) = refl
  call_renamed k add (OnLifetime id) = refl

  turn : (k add : Chain) (cs : List Call) → in_turn u (R k) (R add) cs ≡ S (in_turn s k add cs)
  turn k add [] = refl
  turn k add (c ∷ cs) =
      let left = open_frames_of_call (open_frames s) c in
      let more : open_frames_of_call (open_frames u) c ++ R add ≡ R (left ++ add) =
      ap (λ (x : Chain). x ++ R add) (call_open_frames (open_frames u) (open_frames s) open_frames_renamed c) ∙ sym (R_two left add) in
      two (call_child_context (R k) (R add) c) (in_turn u (R k) (open_frames_of_call (open_frames u) c ++ R add) cs)
      (call_child_context k add c) (in_turn s k (left ++ add) cs)
      (call_renamed k add c) (ap (λ (x : Chain). in_turn u (R k) x cs) more ∙ turn k (left ++ add) cs)

  item_renamed : (x : Item) → item_frames x ≡ R (item_frames x)
  item_renamed (Item.MacroDef id) = refl
  item_renamed Item.Other = refl

  behind : (x : Statement) → frames_after u x ≡ R (frames_after s x)
  behind (Statement.Let pat ty x y) =
      let own = frame_renamed ScopeKind.None (pat ∷ []) in
      let inner = open_frames_renamed (NodeId.Pat pat) in
      let outer = open_frames_of_calls_renamed (open_frames u) (open_frames s) open_frames_renamed (opt e x ++ opt e y) in
      (λ i. inner i ++ (own i ∷ outer i))
      ∙ sym (R_two (open_frames s (NodeId.Pat pat))
      (frame s (pat ∷ []) ∷ open_frames_of_calls (open_frames s) (opt e x ++ opt e y)))
  behind (Statement.Expr x semi) = open_frames_renamed (NodeId.Expr x)
  behind (Statement.Item item) = item_renamed item

  behind_constants : (x : Statement) → const_frames_after x ≡ R (const_frames_after x)
  behind_constants (Statement.Let pat ty x y) = refl
  behind_constants (Statement.Expr x semi) = refl
  behind_constants (Statement.Item item) = item_renamed item

  -- a pattern after its frame
  bound : (k outer outer_u : Chain) (ps : List ℕ) (cs : List Call) → outer_u ≡ R outer →
      in_turn u (R k) (frame u ps ∷ outer_u) cs ≡ S (in_turn s k (frame s ps ∷ outer) cs)
  bound k outer outer_u ps cs h = grind (arith, common_steps, frame_renamed ScopeKind.None ps, turn k (frame s ps ∷ outer) cs)

  statement : (k add : Chain) (x : Statement) → statement_child_contexts u (R k) (R add) x ≡ S (statement_child_contexts s k add x)
  statement k add (Statement.Let pat ty x y) =
      let cs = opt e x ++ opt e y in
      let all = opt t ty ++ opt e x ++ opt e y in
      let before = open_frames_of_calls (open_frames s) cs ++ add in
      let same : open_frames_of_calls (open_frames u) cs ++ R add ≡ R before =
      ap (λ (c : Chain). c ++ R add)
      (open_frames_of_calls_renamed (open_frames u) (open_frames s) open_frames_renamed cs)
      ∙ sym (R_two (open_frames_of_calls (open_frames s) cs) add) in
      two (in_turn u (R k) (R add) all)
      (in_turn u (R k) (frame u (pat ∷ []) ∷ (open_frames_of_calls (open_frames u) cs ++ R add)) (p pat))
      (in_turn s k add all) (in_turn s k (frame s (pat ∷ []) ∷ before) (p pat))
      (turn k add all) (bound k before (open_frames_of_calls (open_frames u) cs ++ R add) (pat ∷ []) (p pat) same)
  statement k add (Statement.Expr x semi) = turn k add (e x)
  statement k add (Statement.Item item) = refl

  in_block : (k add : Chain) (xs : List Statement) (tail : Option ℕ) → block_child_contexts u (R k) (R add) xs tail
      ≡ S (block_child_contexts s k add xs tail)
  in_block k add [] tail = turn k add (opt e tail)
  in_block k add (x ∷ xs) tail =
      search (
        rules,
        behind_constants,
        R_two,
        behind,
        two,
        statement,
        in_block (const_frames_after x ++ k) (frames_after s x ++ add) xs tail,
      )

  in_arm : (add : Chain) (arm : MatchArm) → arm_child_contexts u (R add) arm ≡ S (arm_child_contexts s add arm)
  in_arm add arm = bound [] add (R add) (arm.pat ∷ []) (p arm.pat ++ opt e arm.guard ++ e arm.expr) refl

  of_block : (id : Option ℕ) → block_const_frames id ≡ R (block_const_frames id)
  of_block None = refl
  of_block (Some id) = refl

  form_contexts : (f : ScopingForm) → child_contexts_of_form u f ≡ S (child_contexts_of_form s f)
  form_contexts (form.If c y o) =
      two (in_turn u [] (empty ∷ []) (e c ++ e y)) (in_turn u [] [] (opt e o))
      (in_turn s [] (empty ∷ []) (e c ++ e y)) (in_turn s [] [] (opt e o))
      (turn [] (empty ∷ []) (e c ++ e y)) (turn [] [] (opt e o))
  form_contexts (form.Let pat x) =
      two (in_turn u [] [] (e x)) (in_turn u [] (frame u (pat ∷ []) ∷ open_frames u (NodeId.Expr x)) (p pat))
      (in_turn s [] [] (e x)) (in_turn s [] (frame s (pat ∷ []) ∷ open_frames s (NodeId.Expr x)) (p pat))
      (turn [] [] (e x)) (bound [] (open_frames s (NodeId.Expr x)) (open_frames u (NodeId.Expr x)) (pat ∷ []) (p pat)
      (open_frames_renamed (NodeId.Expr x)))
  form_contexts (form.Block id label xs tail) =
      grind (arith, common_steps, of_block id, in_block (block_const_frames id) (own_frame id label ∷ []) xs tail)
  form_contexts (form.Loop label x) = turn [] (of_kind (loop_kind label) ∷ []) (e x)
  form_contexts (form.Closure types ret args x) =
      let ts = flat_map (opt t) types ++ opt t ret in
      let cs = flat_map p args ++ e x in
      two (in_turn u [] [] ts) (in_turn u [] (frame u args ∷ []) cs) (in_turn s [] [] ts)
      (in_turn s [] (frame s args ∷ []) cs) (turn [] [] ts) (bound [] [] [] args cs refl)
  form_contexts (form.Match x arms) =
      two (in_turn u [] [] (e x)) (flat_map (arm_child_contexts u (open_frames u (NodeId.Expr x))) arms)
      (in_turn s [] [] (e x)) (flat_map (arm_child_contexts s (open_frames s (NodeId.Expr x))) arms)
      (turn [] [] (e x))
      (ap (λ (c : Chain). flat_map (arm_child_contexts u c) arms) (open_frames_renamed (NodeId.Expr x))
      ∙ flat_map_mapped (arm_child_contexts u (R (open_frames s (NodeId.Expr x))))
      (arm_child_contexts s (open_frames s (NodeId.Expr x))) renamed_context
      (in_arm (open_frames s (NodeId.Expr x))) arms)
  form_contexts (form.Assignment target x) =
      two (in_turn u [] (frame u (target ∷ []) ∷ []) (p target)) (in_turn u [] [] (e x))
      (in_turn s [] (frame s (target ∷ []) ∷ []) (p target)) (in_turn s [] [] (e x))
      (bound [] [] [] (target ∷ []) (p target) refl) (turn [] [] (e x))
  form_contexts (form.PatternType ty pat) =
      two (in_turn u [] [] (t ty)) (in_turn u [] (frame u (pat ∷ []) ∷ []) (p pat)) (in_turn s [] [] (t ty))
      (in_turn s [] (frame s (pat ∷ []) ∷ []) (p pat))
      (turn [] [] (t ty)) (bound [] [] [] (pat ∷ []) (p pat) refl)
  form_contexts (form.InTurn cs) = turn [] [] cs

  child_contexts_renamed : (n : NodeId) → child_contexts u n ≡ S (child_contexts s n)
  unfolding child_contexts
  child_contexts_renamed n = ap (child_contexts_of_form u) (form_same n) ∙ form_contexts (form_of s n)

  -- places and chains

  abbrev pub renamed_in_context : InContext → InContext
  renamed_in_context at = record { node = at.node; scope = R at.scope; const_scope = R at.const_scope }

  based : (b : Base) (h k : Chain) → on_base b (R h) (R k) ≡ R (on_base b h k)
  based Scope h k = refl
  based ConstScope h k = refl

  abbrev in_context : NodeId → Chain → Chain → InContext
  in_context n h k = record { node = n; scope = h; const_scope = k }

  child_renamed : (h k : Chain) (x : ChildContext) → child_in_context (R h) (R k) (renamed_context x)
      ≡ renamed_in_context (child_in_context h k x)
  child_renamed h k x = search (rules, R_two, based)

  children_renamed : (h k : Chain) (xs : List ChildContext) → map (child_in_context (R h) (R k)) (S xs)
      ≡ map renamed_in_context (map (child_in_context h k) xs)
  children_renamed h k [] = refl
  children_renamed h k (x ∷ xs) = search (rules, child_renamed, children_renamed h k xs)

  children_in_context_renamed : (at : InContext) → children_in_context u (renamed_in_context at)
      ≡ map renamed_in_context (children_in_context s at)
  children_in_context_renamed at = search (rules, child_contexts_renamed, children_renamed)

  occurs_renamed : (entry_nodes : List InContext) (at : InContext) → Occurs s entry_nodes at →
      Occurs u (map renamed_in_context entry_nodes) (renamed_in_context at)
  occurs_renamed entry_nodes at (entry_node m) = entry_node (mapped renamed_in_context entry_nodes at m)
  occurs_renamed entry_nodes at (child {parent = parent} st m) =
      child (occurs_renamed entry_nodes parent st)
      (subst (λ (ps : List InContext). Contains ps (renamed_in_context at)) (sym (children_in_context_renamed parent))
      (mapped renamed_in_context (children_in_context s parent) at m))

  own_renamed : (f : ScopingForm) (h : Chain) → within_own f (R h) ≡ R (within_own f h)
  own_renamed (form.Block id label xs tail) h = refl
  own_renamed (form.If c y o) h = refl
  own_renamed (form.Let pat x) h = refl
  own_renamed (form.Loop label x) h = refl
  own_renamed (form.Closure types ret args x) h = refl
  own_renamed (form.Match x arms) h = refl
  own_renamed (form.Assignment target x) h = refl
  own_renamed (form.PatternType ty pat) h = refl
  own_renamed (form.InTurn cs) h = refl

  -- the chains are the same, with the entries renamed
  pub chain_renamed : (entry_nodes : List InContext) (x : ℕ) (c : Chain) → HasChain s entry_nodes x c →
      HasChain u (map renamed_in_context entry_nodes) x (R c)
  chain_renamed entry_nodes x c has =
      grind (
        arith,
        common_steps,
        occurs_renamed entry_nodes has.at has.occurs,
        own_renamed (form_of s (NodeId.Expr x)) has.at.scope,
        form_same (NodeId.Expr x),
      )

  self_renamed : (o : Option ℕ) → all_of (entry_at u) o ≡ map ren (all_of (entry_at s) o)
  self_renamed None = refl
  self_renamed (Some id) = a.entries id

  root_renamed : (o : Option ℕ) (formals : List ℕ) → root_frame u o formals ≡ mapped_frame ren (root_frame s o formals)
  root_renamed o formals = search (rules, self_renamed, flat_map_mapped, binds_renamed, map-append)

  pub entry_nodes_renamed : (o : Option ℕ) (formals : List ℕ) (last : Option ℕ) → body_entry_nodes u o formals last
      ≡ map renamed_in_context (body_entry_nodes s o formals last)
  unfolding body_entry_nodes
  entry_nodes_renamed o formals last =
      let root = root_frame s o formals ∷ [] in
      let cs = flat_map p formals ++ opt e last in
      let first = root_renamed o formals in
      (λ i. map (child_in_context [] []) (in_turn u (first i ∷ []) (first i ∷ []) cs))
      ∙ (ap (map (child_in_context [] [])) (turn root root cs) ∙ children_renamed [] [] (in_turn s root root cs))

-- 3. The renamed nodes are alike

module _ {X Y : Type 0} (g : X → Y) (f : X → X) (h : (x : X) → g (f x) ≡ g x) where
  changed_map : (xs : List X) (i : ℕ) → map g (change_at f xs i) ≡ map g xs
  changed_map [] i = refl
  changed_map (x ∷ xs) zero = ap (λ (y : Y). y ∷ map g xs) (h x)
  changed_map (x ∷ xs) (suc i) = ap (λ (ys : List Y). g x ∷ ys) (changed_map xs i)

pub changed_length : {X : Type 0} (f : X → X) (xs : List X) (i : ℕ) → length (change_at f xs i) ≡ length xs
changed_length f [] i = refl
changed_length f (x ∷ xs) zero = refl
changed_length f (x ∷ xs) (suc i) = ap suc (changed_length f xs i)

expr_form_kept : (name : List ℕ) (x : Expr) → expr_form (renamed_expr name x) ≡ expr_form x
expr_form_kept name (Expr.Path (Path.BarePath path)) = refl
expr_form_kept name (Expr.Path (Path.Normal path)) = refl
expr_form_kept name (Expr.Path (Path.LangItem target segment)) = refl
expr_form_kept name _ = refl

expr_calls_kept : (name : List ℕ) (x : Expr) → expr_calls (renamed_expr name x) ≡ expr_calls x
expr_calls_kept name (Expr.Path (Path.BarePath path)) = refl
expr_calls_kept name (Expr.Path (Path.Normal path)) = refl
expr_calls_kept name (Expr.Path (Path.LangItem target segment)) = refl
expr_calls_kept name _ = refl

pat_calls_kept : (name : List ℕ) (x : Pat) → pat_calls (renamed_pat name x) ≡ pat_calls x
pat_calls_kept name (Pat.Path (Path.BarePath path)) = refl
pat_calls_kept name (Pat.Path (Path.Normal path)) = refl
pat_calls_kept name (Pat.Path (Path.LangItem target segment)) = refl
pat_calls_kept name _ = refl

pat_bindings_kept : (name : List ℕ) (x : Pat) → pat_bindings (renamed_pat name x) ≡ pat_bindings x
pat_bindings_kept name (Pat.Path path) = refl
pat_bindings_kept name _ = refl

abbrev with_bindings : Sizes → ℕ → Sizes
with_bindings z n = record z { bindings = n }

abbrev with_exprs : Sizes → ℕ → Sizes
with_exprs z n = record z { exprs = n }

abbrev with_pats : Sizes → ℕ → Sizes
with_pats z n = record z { pats = n }

-- the entry of a binding, where there is one
abbrev pub one_entry : ℕ → Option Binding → List ScopeEntry
one_entry id o = all_of (λ (b : Binding). entry_of id b ∷ []) o

abbrev renamed_where : List ℕ → Bool → ScopeEntry → ScopeEntry
renamed_where name test x = cond test (record x { name = name }) x

none_changed : (name : List ℕ) (id : ℕ) (o : Option Binding) → one_entry id o ≡ map (renamed_where name false) (one_entry id o)
none_changed name id None = refl
none_changed name id (Some b) = refl

changed_entry : (name : List ℕ) (xs : List Binding) (i j id : ℕ) →
    one_entry id (slice_get (change_at (renamed_binding name) xs i) j)
    ≡ map (renamed_where name (nat_eq j i)) (one_entry id (slice_get xs j))
changed_entry name [] i j id = refl
changed_entry name (x ∷ xs) zero zero id = refl
changed_entry name (x ∷ xs) zero (suc j) id = search (rules, none_changed, eqb-suc-zero)
changed_entry name (x ∷ xs) (suc i) zero id = ap (λ (b : Bool). map (renamed_where name b) (one_entry id (Some x))) (sym (eqb-zero-suc i))
changed_entry name (x ∷ xs) (suc i) (suc j) id = search (rules, eqb-suc-suc, changed_entry name xs i j id)

as_renamed : (name : List ℕ) (binding id : ℕ) (o : Option Binding) →
    map (renamed_where name (nat_eq id binding)) (one_entry id o) ≡ map (renamed_entry binding name) (one_entry id o)
as_renamed name binding id None = refl
as_renamed name binding id (Some b) = refl

module _ (name : List ℕ) (binding : ℕ) (s : Nodes) where
  alike_first : Alike (renamed_entry binding name) s (rename_binding name s binding)
  alike_first = record {
    expr_forms = refl;
    expr_calls = refl;
    pat_forms = refl;
    pat_calls = refl;
    pat_bindings = refl;
    types = refl;
    entries = λ id. changed_entry name s.bindings binding id id ∙ as_renamed name binding id (slice_get s.bindings id);
    sizes = ap (with_bindings (sizes_of s)) (changed_length (renamed_binding name) s.bindings binding);
  }

  alike_path : (u : Nodes) (path : ExprOrPatId) → Alike (renamed_entry binding name) s u →
      Alike (renamed_entry binding name) s (rename_path name u path)
  alike_path u (ExprId id) a = search (rules, changed_map, expr_form_kept, expr_calls_kept, changed_length)
  alike_path u (PatId id) a = search (rules, changed_map, pat_calls_kept, pat_bindings_kept, changed_length)

  alike_paths : (u : Nodes) (paths : List ExprOrPatId) → Alike (renamed_entry binding name) s u →
      Alike (renamed_entry binding name) s (fold (rename_path name) u paths)
  alike_paths u [] a = a
  alike_paths u (path ∷ paths) a = alike_paths (rename_path name u path) paths (alike_path u path a)

  pub alike : (usages : List Usage) → Alike (renamed_entry binding name) s (renamed_nodes name binding usages s)
  alike usages = alike_paths (rename_binding name s binding) (map (λ (x : Usage). x.path) usages) alike_first

-- the chains of the renamed body are those of the body, with the entries renamed
pub chains_renamed : (b : BodyContents) (scopes sight : Scopes) →
    ChainsAreFrames b.store.nodes (entry_nodes_of_body b) scopes → (binding : ℕ) (name : List ℕ) (x scope : ℕ) →
    finmap.get scopes.scope_by_expr x ≡ Some scope →
    HasChain (renamed_body b sight binding name).store.nodes
    (entry_nodes_of_body (renamed_body b sight binding name)) x
    (renamed_chain binding name (chain scopes.scopes (Some scope)))
chains_renamed b scopes sight chains binding name x scope is =
    let s = b.store.nodes in
    let usages = usages_of binding (usages_of_body b sight) in
    let u = renamed_nodes name binding usages s in
    let a = alike name binding s usages in
    let own = option_map (λ (q : Param ℕ). q.formal) b.self_param in
    let same = entry_nodes_renamed (renamed_entry binding name) s u a own (formals_of b.params) (last_root b.store) in
    subst (λ (entry_nodes : List InContext). HasChain u entry_nodes x
    (renamed_chain binding name (chain scopes.scopes (Some scope)))) (sym same)
    (chain_renamed (renamed_entry binding name) s u a (entry_nodes_of_body b) x (chain scopes.scopes (Some scope)) (chains x scope is))
