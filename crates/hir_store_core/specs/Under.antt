-- The descendants of a node, defined from a node to its children, and the nodes that are reached from some
-- nodes.
use Rattle.std.specs.Prelude.{◌≡◌, ◌<◌, ◌∷◌}
use Rattle.hir_store_core.specs.Prelude.{ℕ, List, [], Some, slice_get, Contains, flat_map, NodeId, Nodes, Has, children_of, fold_down}

-- a node is a descendant of itself, and a descendant of a child of a node is a descendant of the node
pub data Under (s : Nodes) (n : NodeId) : NodeId → Type 0 where
  itself : Under s n n
  below : {k r : NodeId} → Contains (children_of s r) k → Under s n k → Under s n r

-- the node is a descendant of another one, which is among these
abbrev pub LiesUnderOther : Nodes → (NodeId → Type 0) → NodeId → Type 0
LiesUnderOther s Among n = (r : NodeId) × Has s r × Among r × (n ≡ r → ⊥) × Under s n r

-- no two of these nodes have a common descendant
abbrev pub AreDisjoint : Nodes → List NodeId → Type 0
AreDisjoint s entry_nodes = (i j : ℕ) (a b n : NodeId) → i < j → slice_get entry_nodes i ≡ Some a
    → slice_get entry_nodes j ≡ Some b
    → Under s n a → Under s n b → ⊥

-- the node is *reached* from these: it is a descendant of one of them
abbrev pub IsReached : Nodes → List NodeId → NodeId → Type 0
IsReached s entry_nodes n = (t : NodeId) × Contains entry_nodes t × Under s n t

-- a node, and then the descendants of each of its children
abbrev pub nodes_step : Nodes → (NodeId → List NodeId) → NodeId → List NodeId
nodes_step s self n = n ∷ flat_map self (children_of s n)

-- the descendants of a node, preorder: the node itself is the first
-- nodes_under s n = n ∷ flat_map (nodes_under s) (children_of s n): theorem nodes_under_unfold
unfoldable pub nodes_under : Nodes → NodeId → List NodeId
nodes_under s n = fold_down s (nodes_step s) [] n

-- the nodes that are reached from these entry nodes: the descendants of each after those of the ones before
-- it
abbrev pub reached_nodes : Nodes → List NodeId → List NodeId
reached_nodes s entry_nodes = flat_map (nodes_under s) entry_nodes
