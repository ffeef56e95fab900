-- The first fault of nodes with their roots, as it is found part by part; there is one at most.
use Rattle.std.proofs.Common.{◌≡◌, ℕ, ◌<◌, Bool, true, false, List, Option, Some, None, IsTrue, length, map, get_or, refl, sym, ap, ◌∙◌, inl, inr}
use Rattle.std.proofs.lemmas.Bool.{false≢true}
use Rattle.std.proofs.lemmas.List.{get_or-map}
use Rattle.hir_node.specs.declared.type_ref.TypeRef.{TypeRef}
use Rattle.hir_forest.specs.declared.roots.ForestFault.{ForestFault}
use Rattle.hir_forest.specs.Faults.{forest_fault}
use Rattle.hir_forest.proofs.VerdictLemmas.{IsOne, unless-one, before-one, first_below-one, in_words-one}
use Rattle.hir_forest.proofs.FaultLemmas.{forest_fault-one}
use Rattle.hir_validate.specs.declared.sizes.Sizes.{Sizes}
use Rattle.hir_node.specs.declared.node_id.NodeId.{NodeId}
use Rattle.hir_node.specs.declared.node_id.NodeId.TheVariants as node
use Rattle.hir_validate.specs.declared.fault.FinishFault.{FinishFault}
use Rattle.hir_validate.specs.declared.fault.FinishFault.TheVariants.{IdOutOfRange, NotAPath, NoReturnType, NoSelfArgument, ArgumentLists}
use Rattle.hir_validate.specs.TestedParts.{TestedParts, tested_expr, tested_pat, tested_type, ids_in_range, names_paths, gives_self, lists_fit}
use Rattle.hir_validate.specs.Nodes.{Nodes, sizes_of, graph}
use Rattle.hir_validate.specs.Faults.{RootedNodes, node_fault, first_of, first_bad_node, fault_of_graph, graph_fault, rooted_fault, ends_of}

fails : (b : Bool) → b ≡ false → IsTrue b → ⊥
fails b f t = false≢true (sym f ∙ t)

-- the fault of one node, where the tests before hold and one fails, and none where all hold
module _ (sizes : Sizes) (types : List TypeRef) (id : NodeId) (x : TestedParts) where
  pub fault-ids : ids_in_range sizes x ≡ false → node_fault sizes types id x (Some (IdOutOfRange id))
  unfolding node_fault
  fault-ids h = inl (refl, fails (ids_in_range sizes x) h)

  pub fault-paths : ids_in_range sizes x ≡ true → names_paths types x.held ≡ false → node_fault sizes types id x (Some (NotAPath id))
  unfolding node_fault
  fault-paths t h = inr (t, inl (refl, fails (names_paths types x.held) h))

  pub fault-return : ids_in_range sizes x ≡ true → names_paths types x.held ≡ true → x.returns ≡ false → node_fault sizes types id x (Some (NoReturnType id))
  unfolding node_fault
  fault-return t p h = inr (t, inr (p, inl (refl, fails x.returns h)))

  pub fault-self : ids_in_range sizes x ≡ true → names_paths types x.held ≡ true → x.returns ≡ true → gives_self x.held ≡ false → node_fault sizes types id x (Some (NoSelfArgument id))
  unfolding node_fault
  fault-self t p r h = inr (t, inr (p, inr (r, inl (refl, fails (gives_self x.held) h))))

  pub fault-lists : ids_in_range sizes x ≡ true → names_paths types x.held ≡ true → x.returns ≡ true → gives_self x.held ≡ true → lists_fit x.held ≡ false → node_fault sizes types id x (Some (ArgumentLists id))
  unfolding node_fault
  fault-lists t p r s h = inr (t, inr (p, inr (r, inr (s, (refl, fails (lists_fit x.held) h)))))

  pub fault-none : ids_in_range sizes x ≡ true → names_paths types x.held ≡ true → x.returns ≡ true → gives_self x.held ≡ true → lists_fit x.held ≡ true → node_fault sizes types id x None
  unfolding node_fault
  fault-none t p r s l = (t, (p, (r, (s, l))))

  pub node_fault-one : IsOne (node_fault sizes types id x)
  unfolding node_fault
  node_fault-one =
      before-one _ _ (unless-one _ _) (before-one _ _ (unless-one _ _) (before-one _ _ (unless-one _ _) (before-one _ _ (unless-one _ _) (unless-one _ _))))

pub told_some : (c : RootedNodes) (f : ForestFault) → forest_fault (graph c.nodes) (ends_of c.nodes) c.roots (Some f) → graph_fault c (Some (fault_of_graph (sizes_of c.nodes) f))
unfolding graph_fault
told_some c f h = (f, refl, h)

pub told_none : (c : RootedNodes) → forest_fault (graph c.nodes) (ends_of c.nodes) c.roots None → graph_fault c None
unfolding graph_fault
told_none c h = h

pub bad_node : (c : RootedNodes) (f : FinishFault) → first_bad_node c.nodes (Some f) → rooted_fault c (Some f)
unfolding rooted_fault
bad_node c f h = inl h

pub graph_last : (c : RootedNodes) (o : Option FinishFault) → first_bad_node c.nodes None → graph_fault c o → rooted_fault c o
unfolding rooted_fault
graph_last c None n h = (n, h)
graph_last c (Some f) n h = inr (n, h)

-- what is found among the expressions, then among the patterns, then among the types
pub bad_expr : (s : Nodes) (f : FinishFault) → first_of (sizes_of s) s.types node.Expr (map tested_expr s.exprs) (Some f) → first_bad_node s (Some f)
unfolding first_bad_node
bad_expr s f h = inl h

pub bad_pat : (s : Nodes) (f : FinishFault) → first_of (sizes_of s) s.types node.Expr (map tested_expr s.exprs) None → first_of (sizes_of s) s.types node.Pat (map tested_pat s.pats) (Some f) → first_bad_node s (Some f)
unfolding first_bad_node
bad_pat s f n h = inr (n, inl h)

pub bad_type : (s : Nodes) (o : Option FinishFault) → first_of (sizes_of s) s.types node.Expr (map tested_expr s.exprs) None → first_of (sizes_of s) s.types node.Pat (map tested_pat s.pats) None → first_of (sizes_of s) s.types node.TypeRef (map tested_type s.types) o → first_bad_node s o
unfolding first_bad_node
bad_type s None n m h = (n, (m, h))
bad_type s (Some f) n m h = inr (n, inr (m, h))

-- nodes with their roots have one first fault at most
pub rooted_fault-one : (c : RootedNodes) → IsOne (rooted_fault c)
unfolding rooted_fault first_bad_node graph_fault
rooted_fault-one c =
    let s = c.nodes in
    before-one _ _
    (before-one _ _ (first_below-one _ _ (λ n. node_fault-one _ _ _ _)) (before-one _ _ (first_below-one _ _ (λ n. node_fault-one _ _ _ _)) (first_below-one _ _ (λ n. node_fault-one _ _ _ _))))
    (in_words-one (fault_of_graph (sizes_of s)) _ (forest_fault-one (graph s) (ends_of s) c.roots))

-- a row of a list's items
pub row_of : {X Y : Type 0} (f : X → Y) (d : Y) (xs : List X) (i : ℕ) (x : X) → i < length xs → x ≡ get_or xs i x → get_or (map f xs) i d ≡ f x
row_of f d xs i x h e = get_or-map f xs i x d h ∙ ap f (sym e)
