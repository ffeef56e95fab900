-- The renamed nodes are those of a store, and of a body: where the nodes have no fault, neither have the renamed ones.
use Rattle.std.proofs.Common.{◌≡◌, ◌<◌, ℕ, zero, suc, List, [], ◌∷◌, Option, Some, None, map, refl, sym, ap, ◌∙◌, subst, length, fold, rules}
use Rattle.std.proofs.Common.{arith}
use Rattle.std.proofs.lemmas.List.{length-map}
use Rattle.std.specs.Prelude.{slice_index_or}
use Rattle.hir_path.specs.declared.ids.ExprOrPatId.{ExprOrPatId}
use Rattle.hir_path.specs.declared.ids.ExprOrPatId.TheVariants.{ExprId, PatId}
use Rattle.hir_path.specs.declared.path.Path.{Path}
use Rattle.hir_node.specs.declared.{expr.Expr.Expr, node_id.NodeId.NodeId, pat.Pat.Pat, type_ref.TypeRef.TypeRef}
use Rattle.hir_forest.specs.declared.roots.{Ends.Ends, Root.Root}
use Rattle.hir_forest.specs.{Faults.forest_fault}
use Rattle.hir_validate.specs.declared.{sizes.Sizes.Sizes}
use Rattle.hir_validate.specs.{declared.node_arenas.Nodes.Nodes, Nodes.sizes_of, Nodes.graph, TestedParts.TestedParts}
use Rattle.hir_validate.specs.{TestedParts.tested_expr, TestedParts.tested_pat, TestedParts.tested_type}
use Rattle.hir_validate.specs.Faults.{ends_of, node_fault, nothing_tested, first_of, first_bad_node, graph_fault, rooted_fault}
use Rattle.hir_store_core.specs.{Contents.Contents, Contents.IsStore, Contents.contents_fault, Contents.contents_of_parts}
use Rattle.hir_store_core.specs.{PatLinks.HasPatLinks, PatLinks.AreLinked, Under.LiesUnderOther}
use Rattle.hir_store_core.specs.declared.kept_parts.KeptParts.{KeptParts}
use Rattle.hir_body.specs.Bodies.{BodyContents, body_fault, fault_at_root, last_root, apart_fault}
use Rattle.hir_scope.specs.Scopes.{Scopes}
use Rattle.hir_usages.specs.Renames.{renamed_entry}
use Rattle.hir_usages.specs.Renamed.{change_at, renamed_expr, renamed_pat, rename_path, rename_binding, renamed_nodes, renamed_body}
use Rattle.hir_usages.specs.Renamed.{with_nodes}
use Rattle.hir_usages.specs.declared.usage.Usage.{Usage}
use Rattle.hir_usages.proofs.AlikeLemmas.{Alike, alike, graph_same, changed_length, children_at_same}
use Rattle.hir_store_core.specs.declared.side_tables.SideTables.{SideTables}
use Rattle.hir_usages.specs.internal.RenamedUses.{rename_use}
use Rattle.hir_usages.proofs.ChangeLemmas.{uses_are_paths}
use Rattle.hir_usages.proofs.RenamedLemmas.{has_before, under_before, as_many}
use Rattle.std.proofs.lemmas.Grind.{common_steps}

-- 1. Each node has no fault.

module _ {X Y : Type 0} (g : X → Y) (f : X → X) (d : Y) (P : Y → Type 0) (kept : (x : X) → P (g x) → P (g (f x))) where
  changed_one : (xs : List X) (j i : ℕ) → P (slice_index_or (map g xs) i d) → P (slice_index_or (map g (change_at f xs j)) i d)
  changed_one [] j i h = h
  changed_one (x ∷ xs) zero zero h = kept x h
  changed_one (x ∷ xs) zero (suc i) h = h
  changed_one (x ∷ xs) (suc j) zero h = h
  changed_one (x ∷ xs) (suc j) (suc i) h = changed_one xs j i h

module _ (z : Sizes) (ts : List TypeRef) (n : List ℕ) where
  expr_kept : (id : NodeId) (x : Expr) → node_fault z ts id (tested_expr x) None → node_fault z ts id (tested_expr (renamed_expr n x)) None
  unfolding node_fault
  expr_kept id (Expr.Path (Path.BarePath path)) h = h
  expr_kept id (Expr.Path (Path.Normal path)) h = h
  expr_kept id (Expr.Path (Path.LangItem target segment)) h = h
  expr_kept id _ h = h

  pat_kept : (id : NodeId) (x : Pat) → node_fault z ts id (tested_pat x) None → node_fault z ts id (tested_pat (renamed_pat n x)) None
  unfolding node_fault
  pat_kept id (Pat.Path (Path.BarePath path)) h = h
  pat_kept id (Pat.Path (Path.Normal path)) h = h
  pat_kept id (Pat.Path (Path.LangItem target segment)) h = h
  pat_kept id _ h = h

  abbrev Sound : Nodes → Type 0
  Sound s =
      first_of z ts NodeId.Expr (map tested_expr s.exprs) None
      × (first_of z ts NodeId.Pat (map tested_pat s.pats) None × first_of z ts NodeId.TypeRef (map tested_type ts) None)

  same_length : {X Y : Type 0} (g : X → Y) (f : X → X) (xs : List X) (j : ℕ) → length (map g (change_at f xs j)) ≡ length (map g xs)
  same_length g f xs j = length-map (change_at f xs j) g ∙ (changed_length f xs j ∙ sym (length-map xs g))

  path_kept : (s : Nodes) (path : ExprOrPatId) → Sound s → Sound (rename_path n s path)
  path_kept s (ExprId j) h = (
    λ i l. changed_one tested_expr (renamed_expr n) nothing_tested
        (λ (x : TestedParts). node_fault z ts (NodeId.Expr i) x None) (λ x. expr_kept (NodeId.Expr i) x) s.exprs j i
        (h.0 i (subst (λ (k : ℕ). i < k) (same_length tested_expr (renamed_expr n) s.exprs j) l)),
    h.1,
  )
  path_kept s (PatId j) h = (
    h.0,
    (
      λ i l. changed_one tested_pat (renamed_pat n) nothing_tested
          (λ (x : TestedParts). node_fault z ts (NodeId.Pat i) x None) (λ x. pat_kept (NodeId.Pat i) x) s.pats j i
          (h.1.0 i (subst (λ (k : ℕ). i < k) (same_length tested_pat (renamed_pat n) s.pats j) l)),
      h.1.1,
    ),
  )

  paths_kept : (s : Nodes) (paths : List ExprOrPatId) → Sound s → Sound (fold (rename_path n) s paths)
  paths_kept s [] h = h
  paths_kept s (path ∷ paths) h = paths_kept (rename_path n s path) paths (path_kept s path h)

-- 2. The whole store

abbrev ends_in : Sizes → Ends
ends_in z = record { exprs = z.exprs; pats = z.pats; bindings = z.bindings }

module _ (x : ℕ) (n : List ℕ) (us : List Usage) (s : Nodes) where
  abbrev u : Nodes
  u = renamed_nodes n x us s

  abbrev a : Alike (renamed_entry x n) s u
  a = alike n x s us

  nodes_kept : first_bad_node s None → first_bad_node u None
  unfolding first_bad_node
  nodes_kept h =
      let z = sizes_of s in
      let first : Sound z s.types n (rename_binding n s x) = h in
      let all : Sound z s.types n u = paths_kept z s.types n (rename_binding n s x) (map (λ (v : Usage). v.path) us) first in
      let types : s.types ≡ u.types = sym a.types in
      let sizes : z ≡ sizes_of u = sym a.sizes in
      subst (λ (y : Sizes). Sound y u.types n u) sizes (subst (λ (ts : List TypeRef). Sound z ts n u) types all)

  graph_kept : (roots : List Root) → graph_fault (record { nodes = s; roots = roots }) None →
      graph_fault (record { nodes = u; roots = roots }) None
  unfolding graph_fault
  graph_kept roots h =
      let ends : ends_of s ≡ ends_of u = ap ends_in (sym a.sizes) in
      let edges : graph s ≡ graph u = sym (graph_same (renamed_entry x n) s u a) in
      subst (λ (e : Ends). forest_fault (graph u) e roots None) ends
      (subst (λ (g : List (List ℕ)). forest_fault g (ends_of s) roots None) edges h)

  links_kept : (kept : KeptParts) → HasPatLinks s.pats kept.links → HasPatLinks u.pats kept.links
  links_kept kept h =
      let as_many : length s.pats ≡ length u.pats = ap (λ (z : Sizes). z.pats) (sym a.sizes) in
      record {
        each = h.each ∙ as_many;
        children = λ m l. subst (AreLinked kept.links m) (sym (children_at_same (renamed_entry x n) s u a m))
            (h.children m (subst (λ (k : ℕ). m < k) (sym as_many) l));
      }

  pub store_kept : (c : Contents) → c.nodes ≡ s → (kept : KeptParts) → IsStore c kept → IsStore (with_nodes c u) kept
  unfolding rooted_fault
  store_kept c is kept h = grind (arith, common_steps, nodes_kept, graph_kept, graph_same (renamed_entry x n) s u a, links_kept)

-- the nodes of a store in which a binding and its uses are renamed, with what else it has, are a store's
pub renamed_is_store : (n : List ℕ) (x : ℕ) (us : List Usage) (s later : Nodes) (roots : List Root)
    (side_tables : SideTables) (kept : KeptParts) →
    IsStore (contents_of_parts s roots side_tables) kept → later ≡ fold (rename_use n) (rename_binding n s x) us →
    IsStore (contents_of_parts later roots side_tables) kept
renamed_is_store n x us s later roots side_tables kept h is =
    grind (
      arith,
      common_steps,
      uses_are_paths n (rename_binding n s x) us,
      store_kept x n us s (contents_of_parts s roots side_tables) refl kept h,
    )

-- 3. The body

module _ (b : BodyContents) (x : ℕ) (n : List ℕ) (scopes : Scopes) where
  abbrev renamed : BodyContents
  renamed = renamed_body b scopes x n

  under_other : (Among : NodeId → Type 0) (m : NodeId) → LiesUnderOther renamed.store.nodes Among m → LiesUnderOther b.store.nodes Among m
  under_other Among m (r, has, among, other, under) = (r, has_before b x n scopes r has, among, other, under_before b x n scopes m r under)

  apart_kept : (root : ℕ) → apart_fault b.store.nodes b.params root None → apart_fault renamed.store.nodes b.params root None
  unfolding apart_fault
  apart_kept root h = (h.0, (λ i l lies. h.1.0 i l (under_other _ _ lies), λ lies. h.1.1 (under_other _ _ lies)))

  at_root : (o : Option ℕ) → fault_at_root b o None → fault_at_root renamed o None
  at_root None h = absurd cc
  at_root (Some root) h = search (rules, as_many, alike, apart_kept)

  pub contents_kept : contents_fault b.store None → contents_fault renamed.store None
  unfolding rooted_fault
  contents_kept h = search (rules, nodes_kept, graph_kept)

  pub body_kept : body_fault b None → body_fault renamed None
  unfolding body_fault
  body_kept h = at_root (last_root b.store) h
