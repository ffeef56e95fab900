-- Defines how calls change the visitor that tests the ids of a node and notes the node as the parent of its
-- children.
use Rattle.std.specs.Prelude.{◌≡◌, ◌+◌, ◌<◌, ◌≤◌, ◌&&◌, ◌∷◌, ◌++◌}
use Rattle.hir_validate.specs.Prelude.{ℕ, Bool, List, [], IsTrue, length, map, with_children, IsParentageOf, Call}
use Rattle.hir_validate.specs.declared.edges.EdgeVisitor.{EdgeVisitor}
use Rattle.hir_validate.specs.Sizes.{Few, is_in_range, places}
use Rattle.hir_validate.specs.TestedParts.{TestedParts, tested_expr, tested_pat, tested_type}
use Rattle.hir_validate.specs.Nodes.{Nodes}

-- there is room for the nodes of the three sorts
pub record HasRoomForNodes (v : EdgeVisitor) : Type 0 where
  pub few : Few v.sizes
  pub nodes : length v.parents.parents ≡ v.sizes.exprs + v.sizes.pats + v.sizes.types

-- there is room for the nodes, and a list of children was begun
abbrev pub CanNote : EdgeVisitor → Type 0
CanNote v = HasRoomForNodes v × (0 < v.parents.rows)

-- w also knows whether these ids are in range, and if all are, the last list of the graph has these children
-- more
pub record NotesIds (v : EdgeVisitor) (are_in_range : Bool) (new_children : List ℕ)
    (w : EdgeVisitor) : Type 0 where
  pub sizes : w.sizes ≡ v.sizes
  pub room : length w.parents.parents ≡ length v.parents.parents
  pub rows : w.parents.rows ≡ v.parents.rows
  pub in_range : w.all_in_range ≡ (v.all_in_range && are_in_range)
  pub children : IsTrue w.all_in_range → (g : List (List ℕ)) → IsParentageOf g v.parents
      → IsParentageOf (with_children g new_children) w.parents

abbrev pub Notes : EdgeVisitor → Call → EdgeVisitor → Type 0
Notes v c w = NotesIds v (is_in_range v.sizes c) (places v.sizes (c ∷ [])) w

-- each id so far is in range, and there is room for so many more nodes
pub record CanVisit (v : EdgeVisitor) (count : ℕ) : Type 0 where
  pub room : HasRoomForNodes v
  pub in_range : IsTrue v.all_in_range
  pub rows : v.parents.rows + count ≤ length v.parents.parents

-- w has visited these nodes too, each id that they name is in range, and each node has its list of children
pub record VisitsNodes (v : EdgeVisitor) (nodes : List TestedParts) (w : EdgeVisitor) : Type 0 where
  pub sizes : w.sizes ≡ v.sizes
  pub room : length w.parents.parents ≡ length v.parents.parents
  pub rows : w.parents.rows ≡ v.parents.rows + length nodes
  pub in_range : IsTrue w.all_in_range
  pub children : (g : List (List ℕ)) → IsParentageOf g v.parents
      → IsParentageOf (g ++ map (λ x. places v.sizes x.calls) nodes) w.parents

-- all nodes: the expressions, then the patterns, then the types
abbrev pub all_tested : Nodes → List TestedParts
all_tested s = map tested_expr s.exprs ++ map tested_pat s.pats ++ map tested_type s.types
