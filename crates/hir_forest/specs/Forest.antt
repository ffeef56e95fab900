-- Defines when a graph of nodes numbered from 0, given by the list of each node's children, is a forest.
-- An edge leads from a node to one of its children; edges are ordered by parent, and then by place among its
-- children.
--
-- The nodes of the running example (hir_node/specs/ChildCalls.antt) are 0 to 13, the expressions, and 14 to 18, the
-- patterns. Their graph, without the nodes that have no child, is
--     2: 0 1    3: 2 16    6: 4 5    7: 18 6    9: 8    11: 10    12: 7 9 11    13: 3 15 12    18: 17
-- It is a forest: each node occurs once at most as a child, and each chain of parents ends, at 13, the root, or at
-- 14, the parameter. With a second parent for 8 it has a shared child; with 13 as a child of 9, a cycle.
use Rattle.std.specs.Prelude.{◌≡◌, ℕ, zero, suc, ◌<◌, Bool, true, false, List, [], length, take, slice_index, slice_index_or, Contains}
use Rattle.std.specs.List.{concat}

-- c is a child of p
abbrev pub IsChild : List (List ℕ) → ℕ → ℕ → Type 0
IsChild g p c = Contains (slice_index_or g p []) c

-- k steps, each from a node to a parent, lead from c to p
abbrev pub Climbs : List (List ℕ) → ℕ → ℕ → ℕ → Type 0
Climbs g zero c p = c ≡ p
Climbs g (suc k) c p = (q : ℕ) × IsChild g q c × Climbs g k q p

-- p has no parent
abbrev pub IsTop : List (List ℕ) → ℕ → Type 0
IsTop g p = (q : ℕ) → IsChild g q p → ⊥

-- some number of steps leads from c to a node without a parent
abbrev pub ChainEnds : List (List ℕ) → ℕ → Type 0
ChainEnds g c = (k : ℕ) × (p : ℕ) × Climbs g k c p × IsTop g p

-- c is a descendant of r
abbrev pub LiesUnder : List (List ℕ) → ℕ → ℕ → Type 0
LiesUnder g c r = (k : ℕ) × Climbs g (suc k) c r

-- each node has at most one parent
abbrev pub HasOneParent : List (List ℕ) → Type 0
HasOneParent g = (p q c : ℕ) → IsChild g p c → IsChild g q c → p ≡ q

-- no child occurs twice among the children of all edges
abbrev pub HasEachOnce : List (List ℕ) → Type 0
HasEachOnce g = (e : ℕ) → e < length (concat g) → Contains (take e (concat g)) (slice_index (concat g) e) → ⊥

-- each child is a node
abbrev pub HasChildrenWithin : List (List ℕ) → Type 0
HasChildrenWithin g = (p c : ℕ) → IsChild g p c → c < length g

-- each node has at most one parent and is its child once, and its chain of parents ends
pub record IsForest (g : List (List ℕ)) : Type 0 where
  pub one_parent : HasOneParent g
  pub each_once : HasEachOnce g
  pub children_within : HasChildrenWithin g
  pub chains_end : (n : ℕ) → n < length g → ChainEnds g n

-- the table marks c
abbrev pub Marks : List Bool → ℕ → Type 0
Marks table c = slice_index_or table c false ≡ true

-- c is a descendant of a node that the table marks
abbrev pub LiesUnderMarked : List (List ℕ) → List Bool → ℕ → Type 0
LiesUnderMarked g marked c = (r : ℕ) × Marks marked r × LiesUnder g c r
