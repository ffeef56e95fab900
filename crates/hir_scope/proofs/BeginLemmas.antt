-- The state in which the walk over a body or a signature begins: it is ready, what it has to do is what is under the
-- entry nodes, and what its frames and those to come weigh are the counts of scopes and entries.
use Rattle.std.proofs.Common.{◌≡◌, ℕ, ◌+◌, ◌<◌, List, [], ◌∷◌, ◌++◌, map, length, refl, sym, ap, ◌∙◌, arith, subst, rules}
use Rattle.std.proofs.Common.{Option, Some, None, Contains, length-append}
use Rattle.std.proofs.lemmas.Grind.{get_or_default_zero}
use Rattle.std.proofs.lemmas.List.{append-nil, length-map}
use Rattle.std.proofs.lemmas.List.Sums.{sum_by-append, sum_by-cons}
use Rattle.std.specs.List.{flat_map, sum_by}
use Rattle.std.specs.{Option.option_to_list, Option.option_map, Prelude.IfSome, Prelude.replicate, Prelude.slice_index}
use Rattle.hir_node.specs.ChildCalls.{Call, e, p, opt}
use Rattle.hir_node.specs.declared.node_id.NodeId.{NodeId}
use Rattle.hir_forest.specs.Faults.{root_nodes}
use Rattle.hir_validate.specs.{declared.node_arenas.Nodes.Nodes, Nodes.Has, Sound.RootsStandApart, TestedParts.all_of}
use Rattle.hir_store_core.specs.{Contents.Contents, Contents.rooted_of, Under.reached_nodes}
use Rattle.hir_body.specs.Bodies.{BodyContents, AreBelow, formals_of, last_root, body_nodes}
use Rattle.hir_body.specs.Bodies as body
use Rattle.hir_signature.specs.{Signatures.root_entry_nodes, Signatures.signature_nodes}
use Rattle.hir_body.specs.{declared.formals.Param.Param}
use Rattle.hir_scope.specs.BodyScopes.{entry_nodes_of_body, entry_nodes_of_signature, limit, BodyIsTooLarge, SignatureIsTooLarge}
use Rattle.hir_scope.specs.BodyScopes.{body_frames, signature_frames}
use Rattle.hir_scope.specs.Chains.{InContext}
use Rattle.hir_scope.specs.Counts.{count_if_some, frames_of_nodes, form_scopes, node_entries, body_scope_count, body_entry_count, signature_scope_count}
use Rattle.hir_scope.specs.Counts.{signature_entry_count}
use Rattle.hir_scope.specs.ScopingForms.{form_of}
use Rattle.hir_scope.specs.Frames.{Frame, entry_at, binds, empty}
use Rattle.hir_scope.specs.{Paths.paths, Scopes.frame_of}
use Rattle.hir_scope.specs.declared.tasks.Task.{Task}
use Rattle.hir_scope.specs.internal.Begins.{IsSound, IsSoundBody, IsSoundStore, root_entries, body_root, body_begins, signature_root}
use Rattle.hir_scope.specs.internal.Begins.{signature_begins}
use Rattle.hir_scope.specs.internal.WalkState.{IsReady, LeavesWithin, Exceeds, about, chain_of, future_of}
use Rattle.hir_scope.specs.internal.WalkState.{node_frames, one, count_entries, total, weight, weight_left}
use Rattle.hir_scope.specs.internal.Pending.{tasks_of}
use Rattle.hir_scope.specs.internal.ContextsUnder.{exprs_under}
use Rattle.hir_scope.proofs.CountLemmas.{bound_by, calls_open, form_ones, form_opens, frame_entries, reached_total}
use Rattle.hir_scope.proofs.DoneLemmas.{in_range_all, leaves_calls}
use Rattle.hir_scope.proofs.EntryLemmas.{entries_of_node, entries_total, no_around, one_entry}
use Rattle.hir_scope.proofs.FutureLemmas.{body_future, body_top_nodes, signature_future, signature_top_nodes, top_children}
use Rattle.hir_scope.proofs.ChildLemmas.{about_calls}
use Rattle.hir_scope.proofs.MemberLemmas.{In, in_contains, contains_in, in_map, sum_flat, sum_same, sum_mapped, sum_none, sum_ones}
use Rattle.hir_scope.proofs.MovingLemmas.{scopes_weigh, entries_weigh}
use Rattle.std.proofs.lemmas.Grind.{common_steps}

-- the roots of a store exist
pub roots_in_range : (c : Contents) → RootsStandApart (rooted_of c) → (n : NodeId) → Contains (root_entry_nodes c) n → Has c.nodes n
roots_in_range c stand n m =
    let roots = root_nodes c.roots in
    let r = in_map NodeId.Expr n roots (in_contains (map NodeId.Expr roots) n m) in
    let at = contains_in roots r.0 r.1 in
    let is : slice_index roots at.0 ≡ r.0 = sym (get_or_default_zero roots at.0 r.0 at.1) ∙ at.2 in
    subst (Has c.nodes) r.2
    (subst (λ (x : ℕ). x < length c.nodes.exprs) is
    (stand.in_range at.0 (omega (arith, at.1, length-map c.roots (λ r. r.node)))))

-- 1. What all states weigh

scopes_total : (s : Nodes) → IsSound s → (nodes : List NodeId) → ((n : NodeId) → In n nodes → Has s n) →
    sum_by (total s (λ n. sum_by one (node_frames s n))) nodes
    ≡ sum_by (λ n. form_scopes (form_of s n)) (reached_nodes s nodes)
scopes_total s sound nodes in_range = search (rules, reached_total, sum_same, form_ones, no_around)

frames_total : (s : Nodes) → IsSound s → (w : Frame → ℕ) (nodes : List NodeId) → ((n : NodeId) → In n nodes → Has s n) →
    sum_by (total s (λ n. sum_by w (node_frames s n))) nodes ≡ sum_by w (frames_of_nodes s (reached_nodes s nodes))
frames_total s sound w nodes in_range = search (rules, reached_total, sum_same, form_opens, no_around, sum_flat)

entries_under : (s : Nodes) → IsSound s → (nodes : List NodeId) → ((n : NodeId) → In n nodes → Has s n) →
    sum_by (bound_by s) nodes + sum_by (total s (entries_of_node s)) nodes
    ≡ sum_by (node_entries s) (reached_nodes s nodes)
entries_under s sound nodes in_range = search (rules, entries_total, reached_total)

-- 2. Bodies

bound_formals : (s : Nodes) (formals : List ℕ) (last : Option ℕ) →
    sum_by (bound_by s) (map NodeId.Pat formals ++ option_to_list (option_map NodeId.Expr last))
    ≡ sum_by (λ q. length (binds s q)) formals
bound_formals s [] None = refl
bound_formals s [] (Some root) = refl
bound_formals s (x ∷ formals) last = search (rules, sum_by-cons, bound_by, bound_formals s formals last)

abbrev SelfIsInRange : Nodes → Option (Param ℕ) → Type 0
SelfIsInRange s self = IfSome self (AreBelow (length s.bindings))

self_entries : (s : Nodes) (self : Option (Param ℕ)) → SelfIsInRange s self →
    length (all_of (entry_at s) (option_map (λ (q : Param ℕ). q.formal) self)) ≡ count_if_some self
self_entries s None h = refl
self_entries s (Some q) h = one_entry s q.formal h.0

first_chain : (b : BodyContents) → chain_of (body_root b ∷ []) 0 ≡ frame_of (body_root b) ∷ []
unfolding paths
first_chain b = refl

module _ (b : BodyContents) where
  abbrev s : Nodes
  s = b.store.nodes

  abbrev top_calls : List Call
  top_calls = flat_map p (formals_of b.params) ++ opt e (last_root b.store)

  pub body_same : map (λ (at : InContext). at.node) (entry_nodes_of_body b) ≡ body.entry_nodes b
  body_same = body_top_nodes s (option_map (λ (q : Param ℕ). q.formal) b.self_param) (formals_of b.params) (last_root b.store)

  pub body_whole : future_of s (body_begins b) ≡ exprs_under s (entry_nodes_of_body b)
  body_whole = search (rules, first_chain, body_future)

  about_entry_nodes : about (tasks_of top_calls) ≡ body.entry_nodes b
  about_entry_nodes = about_calls top_calls ∙ top_children (formals_of b.params) (last_root b.store)

  module _ (sound : IsSoundBody b) where
    pub entry_nodes_in_range : (n : NodeId) → In n (body.entry_nodes b) → Has s n
    entry_nodes_in_range n i = sound.in_range n (contains_in (body.entry_nodes b) n i)

    pub body_ready : IsReady s (body_begins b)
    body_ready = grind (arith, common_steps, append-nil, leaves_calls, about_entry_nodes, in_range_all)

    body_left : (w : Frame → ℕ) → weight_left s w (tasks_of top_calls)
        ≡ sum_by (total s (λ n. sum_by w (node_frames s n))) (body.entry_nodes b)
    body_left w = search (rules, calls_open, about_entry_nodes)

    pub body_frames_weigh : (w : Frame → ℕ) → weight s w (body_begins b) ≡ sum_by w (body_frames b)
    body_frames_weigh w =
        grind (
          arith,
          common_steps,
          body_left w,
          frames_total s sound.nodes w (body.entry_nodes b) entry_nodes_in_range,
          entry_nodes_in_range,
          sum_by-cons w (frame_of (body_root b)) (frames_of_nodes s (body_nodes b)),
        )

    pub body_scopes_weigh : weight s one (body_begins b) ≡ body_scope_count s (body_nodes b)
    body_scopes_weigh = search (rules, scopes_weigh, body_left, scopes_total, entry_nodes_in_range)

    root_length : length (root_entries b) ≡ count_if_some b.self_param + sum_by (bound_by s) (body.entry_nodes b)
    root_length = search (rules, length-append, bound_formals, self_entries, frame_entries)

    pub body_entries_weigh : weight s count_entries (body_begins b) ≡ body_entry_count s b.self_param (body_nodes b)
    body_entries_weigh =
        grind (
          arith,
          common_steps,
          entries_weigh (body_root b ∷ []),
          body_left count_entries,
          entries_under s sound.nodes (body.entry_nodes b) entry_nodes_in_range,
          entry_nodes_in_range,
          root_length,
        )

    -- what it may fail by
    pub body_exceeds : Exceeds s (body_begins b) → BodyIsTooLarge b
    body_exceeds h = search (rules, body_scopes_weigh, body_entries_weigh)

    pub root_exceeds : limit < length (root_entries b) → BodyIsTooLarge b
    root_exceeds h =
        grind (
          arith,
          common_steps,
          root_length,
          entries_under s sound.nodes (body.entry_nodes b) entry_nodes_in_range,
          entry_nodes_in_range,
        )

-- 3. Signatures

about_roots : (roots : List ℕ) → about (map Task.Root roots) ≡ map NodeId.Expr roots
about_roots [] = refl
about_roots (root ∷ roots) = ap (λ (ns : List NodeId). NodeId.Expr root ∷ ns) (about_roots roots)

roots_leave : (roots : List ℕ) → LeavesWithin 1 (map Task.Root roots)
roots_leave [] = tt
roots_leave (root ∷ roots) = (omega arith, roots_leave roots)

first_root_chain : chain_of (signature_root ∷ []) 0 ≡ empty ∷ []
unfolding paths
first_root_chain = refl

bound_roots : (s : Nodes) (roots : List ℕ) → sum_by (bound_by s) (map NodeId.Expr roots) ≡ 0
bound_roots s roots = sum_mapped (bound_by s) NodeId.Expr roots ∙ sum_none (λ root. bound_by s (NodeId.Expr root)) roots (λ root. refl)

-- an empty frame for each root
repeated : (w : Frame → ℕ) (roots : List ℕ) → sum_by w (replicate (length roots) empty) ≡ sum_by (λ (root : ℕ). sum_by w (empty ∷ [])) roots
repeated w [] = refl
repeated w (root ∷ roots) = search (rules, sum_by-cons, repeated w roots)

module _ (c : Contents) where
  abbrev t : Nodes
  t = c.nodes

  abbrev roots : List ℕ
  roots = root_nodes c.roots

  pub signature_same : map (λ (at : InContext). at.node) (entry_nodes_of_signature c) ≡ root_entry_nodes c
  signature_same = signature_top_nodes roots

  pub signature_whole : future_of t (signature_begins c) ≡ exprs_under t (entry_nodes_of_signature c)
  signature_whole = search (rules, signature_future, first_root_chain)

  module _ (sound : IsSoundStore c) where
    pub roots_in : (n : NodeId) → In n (root_entry_nodes c) → Has t n
    roots_in n i = sound.in_range n (contains_in (root_entry_nodes c) n i)

    pub signature_ready : IsReady t (signature_begins c)
    signature_ready = search (rules, roots_leave, about_roots, in_range_all)

    -- a root opens one frame, without entries
    roots_left : (w : Frame → ℕ) → weight_left t w (map Task.Root roots)
        ≡ sum_by (λ (root : ℕ). sum_by w (empty ∷ [])) roots + sum_by (total t (λ n. sum_by w (node_frames t n))) (root_entry_nodes c)
    roots_left w = search (rules, sum_mapped, about_roots)

    pub signature_frames_weigh : (w : Frame → ℕ) → weight t w (signature_begins c) ≡ sum_by w (signature_frames c)
    signature_frames_weigh w =
        grind (
          arith,
          common_steps,
          length-map,
          repeated w roots,
          roots_left w,
          frames_total t sound.nodes w (root_entry_nodes c) roots_in,
          roots_in,
          sum_by-cons,
          sum_by-append,
        )

    pub signature_scopes_weigh : weight t one (signature_begins c) ≡ signature_scope_count t (length c.roots) (signature_nodes c)
    signature_scopes_weigh =
        grind (
          arith,
          common_steps,
          scopes_total t sound.nodes (root_entry_nodes c) roots_in,
          roots_in,
          sum_ones,
          scopes_weigh (signature_root ∷ []),
          length-map,
          roots_left one,
        )

    pub signature_entries_weigh : weight t count_entries (signature_begins c) ≡ signature_entry_count t (signature_nodes c)
    signature_entries_weigh =
        grind (
          arith,
          common_steps,
          entries_under t sound.nodes (root_entry_nodes c) roots_in,
          roots_in,
          sum_none,
          entries_weigh (signature_root ∷ []),
          roots_left count_entries,
          bound_roots t roots,
        )

    pub signature_exceeds : Exceeds t (signature_begins c) → SignatureIsTooLarge c
    signature_exceeds h = search (rules, signature_scopes_weigh, signature_entries_weigh)
