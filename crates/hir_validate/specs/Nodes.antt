-- Defines the nodes of a store, by their ids, and the graph of their children.
-- Lists of expressions, patterns and types, and of bindings, labels and lifetimes: the struct `Nodes`, which a
-- contract sees as the record of its six lists, `exprs`, `pats`, `types`, `bindings`, `labels` and `lifetimes`.
use Rattle.std.specs.Prelude.{◌++◌}
use Rattle.hir_validate.specs.Prelude.{ℕ, List, [], map, length, slice_get, Call, expr_calls, pat_calls, type_calls, opt, children, NodeId}
use Rattle.hir_node.specs.declared.node_id.NodeId.TheVariants as node
use Rattle.hir_validate.specs.declared.sizes.Sizes.{Sizes}
use Rattle.hir_validate.specs.Sizes.{HasNode, places}
pub use Rattle.hir_validate.specs.declared.node_arenas.Nodes.{Nodes}

-- empty lists
abbrev pub no_nodes : Nodes
no_nodes = record { exprs = []; pats = []; types = []; bindings = []; labels = []; lifetimes = [] }

abbrev pub sizes_of : Nodes → Sizes
sizes_of s = record {
  exprs = length s.exprs;
  pats = length s.pats;
  types = length s.types;
  bindings = length s.bindings;
  labels = length s.labels;
  lifetimes = length s.lifetimes;
}

abbrev pub Has : Nodes → NodeId → Type 0
Has s n = HasNode (sizes_of s) n

-- the calls of the item with an id, none if the id is out of range
abbrev pub calls_at : {X : Type 0} → (X → List Call) → List X → ℕ → List Call
calls_at calls xs id = opt calls (slice_get xs id)

-- the child calls of a node
abbrev pub calls_of : Nodes → NodeId → List Call
calls_of s (node.Expr id) = calls_at expr_calls s.exprs id
calls_of s (node.Pat id) = calls_at pat_calls s.pats id
calls_of s (node.TypeRef id) = calls_at type_calls s.types id

-- the children of a node
abbrev pub children_of : Nodes → NodeId → List NodeId
children_of s n = children (calls_of s n)

-- the calls of all nodes: of the expressions, then of the patterns, then of the types
abbrev pub all_calls : Nodes → List (List Call)
all_calls s = map expr_calls s.exprs ++ map pat_calls s.pats ++ map type_calls s.types

-- the children of all nodes, by their places
abbrev pub graph : Nodes → List (List ℕ)
graph s = map (places (sizes_of s)) (all_calls s)
