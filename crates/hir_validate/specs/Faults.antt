-- Defines the first fault of nodes with their roots.
use Rattle.hir_validate.specs.Prelude.{ℕ, List, [], Option, None, IsTrue, true, length, map, slice_index_or, TypeRef, Ends, Root, ForestFault, ◌unless◌, ◌before◌, first_below, in_words, forest_fault, NodeId}
use Rattle.hir_forest.specs.declared.roots.ForestFault.TheVariants as forest
use Rattle.hir_validate.specs.declared.sizes.Sizes.{Sizes}
use Rattle.hir_validate.specs.declared.nodes.NodeSlices.{NodeSlices}
use Rattle.hir_node.specs.declared.node_id.NodeId.TheVariants as node
use Rattle.hir_validate.specs.declared.fault.FinishFault.{FinishFault}
use Rattle.hir_validate.specs.declared.fault.FinishFault.TheVariants.{IdOutOfRange, NotAPath, NoReturnType, NoSelfArgument, ArgumentLists, SharedChild, Cycle, RootOutOfRange, RootRepeated, RootUnderRoot, RootEnds}
use Rattle.hir_validate.specs.Sizes.{node_at}
use Rattle.hir_validate.specs.TestedParts.{TestedParts, tested_expr, tested_pat, tested_type, ids_in_range, names_paths, gives_self, lists_fit}
use Rattle.hir_validate.specs.Nodes.{Nodes, sizes_of, graph}

-- the nodes that are borrowed
abbrev pub nodes_in : NodeSlices → Nodes
nodes_in n = record {
  exprs = n.exprs.now;
  pats = n.pats.now;
  types = n.types.now;
  bindings = n.bindings.now;
  labels = n.labels.now;
  lifetimes = n.lifetimes.now;
}

-- nodes with their roots
pub record RootedNodes : Type 0 where
  pub nodes : Nodes
  pub roots : List Root

-- the number of expressions, of patterns and of bindings
abbrev pub ends_of : Nodes → Ends
ends_of s = record { exprs = length s.exprs; pats = length s.pats; bindings = length s.bindings }

-- the first fault of one node: ids out of range, then a type that isn't a path, then a missing return type,
-- then a missing self argument, then lists that don't fit
unfoldable pub node_fault : Sizes → List TypeRef → NodeId → TestedParts → Option FinishFault → Type 0
node_fault sizes types id x =
    (IdOutOfRange id unless IsTrue (ids_in_range sizes x))
    before (NotAPath id unless IsTrue (names_paths types x.held))
    before (NoReturnType id unless IsTrue x.returns)
    before (NoSelfArgument id unless IsTrue (gives_self x.held))
    before (ArgumentLists id unless IsTrue (lists_fit x.held))

abbrev pub nothing_tested : TestedParts
nothing_tested = record {
  calls = [];
  bindings = [];
  labels = [];
  held = record { path = None; args = None; bounds = [] };
  returns = true;
}

-- the first fault of a single node, among nodes of one sort
abbrev pub first_of : Sizes → List TypeRef → (ℕ → NodeId) → List TestedParts → Option FinishFault → Type 0
first_of sizes types name parts = first_below (length parts)
    (λ n. node_fault sizes types (name n) (slice_index_or parts n nothing_tested))

-- the first fault of a single node: of an expression, then of a pattern, then of a type
unfoldable pub first_bad_node : Nodes → Option FinishFault → Type 0
first_bad_node s =
    first_of (sizes_of s) s.types node.Expr (map tested_expr s.exprs)
    before first_of (sizes_of s) s.types node.Pat (map tested_pat s.pats)
    before first_of (sizes_of s) s.types node.TypeRef (map tested_type s.types)

-- a fault of the graph, with the node in place of its number
abbrev pub fault_of_graph : Sizes → ForestFault → FinishFault
fault_of_graph sizes (forest.SharedChild n) = SharedChild (node_at sizes n)
fault_of_graph sizes (forest.Cycle n) = Cycle (node_at sizes n)
fault_of_graph sizes (forest.RootOutOfRange i) = RootOutOfRange i
fault_of_graph sizes (forest.RootRepeated i) = RootRepeated i
fault_of_graph sizes (forest.RootUnderRoot i) = RootUnderRoot i
fault_of_graph sizes (forest.RootEnds i) = RootEnds i

-- the first fault of the graph and the roots
unfoldable pub graph_fault : RootedNodes → Option FinishFault → Type 0
graph_fault c = in_words (fault_of_graph (sizes_of c.nodes))
    (forest_fault (graph c.nodes) (ends_of c.nodes) c.roots)

-- the first fault of nodes with their roots
unfoldable pub rooted_fault : RootedNodes → Option FinishFault → Type 0
rooted_fault c = first_bad_node c.nodes before graph_fault c
