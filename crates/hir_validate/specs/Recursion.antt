-- Defines recursion over a store: a rank that decreases from each node to its children, and definitions of a
-- node's value by its children' values.
use Rattle.std.specs.Prelude.{◌≡◌, ◌<◌, ◌∷◌}
use Rattle.hir_validate.specs.Prelude.{ℕ, zero, suc, List, [], ⊤, Contains, height, NodeId}
use Rattle.hir_validate.specs.Sizes.{place}
use Rattle.hir_validate.specs.Nodes.{Nodes, sizes_of, Has, children_of, graph}

-- the number of nodes on the longest path down from a node
unfoldable pub rank : Nodes → NodeId → ℕ
rank s n = height (graph s) (place (sizes_of s) n)

-- each child of a node of the store is in range, and has a lower rank
pub record RankDecreases (s : Nodes) : Type 0 where
  pub in_range : (n : NodeId) → Has s n → (k : NodeId) → Contains (children_of s n) k → Has s k
  pub lower : (n : NodeId) → Has s n → (k : NodeId) → Contains (children_of s n) k → rank s k < rank s n

-- the value of a node by a step, to a depth: `self` in the step is the value of another node, and `default`
-- its value below that depth
abbrev pub fold_down_within : {A : Type 0} → ((NodeId → A) → NodeId → A) → A → ℕ → NodeId → A
fold_down_within step default zero n = default
fold_down_within step default (suc depth) n = step (fold_down_within step default depth) n

-- the value of a node by a step: no path down is longer than the rank
-- fold_down s step default n = step (fold_down s step default) n: theorem fold_down_unfold, where the step depends
-- on children alone and the store has no fault
unfoldable pub fold_down : {A : Type 0} → Nodes → ((NodeId → A) → NodeId → A) → A → NodeId → A
fold_down s step default n = fold_down_within step default (suc (rank s n)) n

-- two functions give each of these nodes the same value
abbrev pub AgreeOn : {A : Type 0} → (NodeId → A) → (NodeId → A) → List NodeId → Type 0
AgreeOn self other [] = ⊤
AgreeOn self other (k ∷ ks) = (self k ≡ other k) × AgreeOn self other ks

-- the step depends only on the values of a node's children
abbrev pub DependsOnChildren : {A : Type 0} → Nodes → ((NodeId → A) → NodeId → A) → Type 0
DependsOnChildren s step = (self other : NodeId → _) (n : NodeId) → AgreeOn self other (children_of s n)
    → step self n ≡ step other n
