-- Sets of nodes of a store, kept as a mark for each node.
use Rattle.std.specs.Prelude.{◌≡◌, ◌⊎◌, ◌↔◌}
use Rattle.hir_store_core.specs.Prelude.{Bool, List, Contains, Marks, NodeId, Sizes, HasNode, place, Nodes, Has, children_of}

-- the number of nodes, and a mark for each, in the order of their numbers
pub record MarkedNodes : Type 0 where
  pub sizes : Sizes
  pub marks : List Bool

-- the node is in the set
abbrev pub IsIn : MarkedNodes → NodeId → Type 0
IsIn set n = Marks set.marks (place set.sizes n)

-- this node is added to the set, and no other
pub record Gains (old : MarkedNodes) (added : NodeId) (new : MarkedNodes) : Type 0 where
  pub sizes : new.sizes ≡ old.sizes
  pub members : (n : NodeId) → HasNode old.sizes n → IsIn new n ↔ (IsIn old n ⊎ (n ≡ added))

-- no child of a node is in the set
abbrev pub NoChildIn : Nodes → MarkedNodes → Type 0
NoChildIn s set = (m n : NodeId) → Has s m → Contains (children_of s m) n → IsIn set n → ⊥
