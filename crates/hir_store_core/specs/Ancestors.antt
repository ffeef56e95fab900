-- The parent of a node, and its ancestors: its parent, the parent of that one, and so on.
use Rattle.std.specs.Prelude.{◌+◌, ◌==◌, ◌∷◌, ◌++◌}
use Rattle.hir_store_core.specs.Prelude.{ℕ, zero, suc, Bool, false, List, [], Option, Some, None, map, find, length, list_any, enumerate_from, NodeId, Nodes, children_of}
use Rattle.hir_node.specs.declared.node_id.NodeId.TheVariants as node

-- two ids are of the same node
abbrev pub is_node : NodeId → NodeId → Bool
is_node (node.Expr n) (node.Expr m) = n == m
is_node (node.Pat n) (node.Pat m) = n == m
is_node (node.TypeRef n) (node.TypeRef m) = n == m
is_node n m = false

-- the nodes of a store: expressions, then patterns, then types
abbrev pub all_nodes : Nodes → List NodeId
all_nodes s =
    map (λ x. node.Expr x.0) (enumerate_from 0 s.exprs)
    ++ map (λ x. node.Pat x.0) (enumerate_from 0 s.pats)
    ++ map (λ x. node.TypeRef x.0) (enumerate_from 0 s.types)

-- n is a child of p
abbrev pub is_child : Nodes → NodeId → NodeId → Bool
is_child s n p = list_any (is_node n) (children_of s p)

-- the parent of a node: the node whose child it is. In an accepted store there is one at most
unfoldable pub parent : Nodes → NodeId → Option NodeId
parent s n = find (is_child s n) (all_nodes s)

-- a parent, and then its ancestors
abbrev pub and_on : (NodeId → List NodeId) → Option NodeId → List NodeId
and_on ancestors None = []
and_on ancestors (Some p) = p ∷ ancestors p

abbrev pub ancestors_within : Nodes → ℕ → NodeId → List NodeId
ancestors_within s zero n = []
ancestors_within s (suc steps) n = and_on (ancestors_within s steps) (parent s n)

-- the ancestors of a node, innermost first: no way up has more steps than there are nodes
unfoldable pub ancestors : Nodes → NodeId → List NodeId
ancestors s n = ancestors_within s (suc (length s.exprs + length s.pats + length s.types)) n
