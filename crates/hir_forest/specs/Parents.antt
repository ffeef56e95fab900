-- Defines the parents of a graph's nodes, as far as their lists of children have been read, and the chains of
-- parents.
use Rattle.std.specs.Prelude.{◌≡◌, ℕ, ◌↔◌, List, Option, Some, None, length, slice_index_or}
use Rattle.std.specs.List.{concat}
use Rattle.hir_forest.specs.declared.roots.ForestFault.{ForestFault}
use Rattle.hir_forest.specs.declared.roots.ForestFault.TheVariants.{SharedChild}
use Rattle.hir_forest.specs.Verdict.{first_below}
use Rattle.hir_forest.specs.Forest.{IsChild}
use Rattle.hir_forest.specs.Faults.{edge_fault}

-- the node has this parent
abbrev pub HasParent : List (Option ℕ) → ℕ → ℕ → Type 0
HasParent parents c p = slice_index_or parents c None ≡ Some p

-- each node of the graph has the parent whose child it is
pub record HasParents (g : List (List ℕ)) (parents : List (Option ℕ)) : Type 0 where
  pub nodes : length parents ≡ length g
  pub children : (c p : ℕ) → HasParent parents c p ↔ IsChild g p c

-- the number of lists of children that a graph has so far, the parents of its nodes, and the child of the
-- first edge that leads to the child of an earlier one
pub record Parentage : Type 0 where
  pub rows : ℕ
  pub parents : List (Option ℕ)
  pub shared : Option ℕ

abbrev pub shared_fault : Option ℕ → Option ForestFault
shared_fault None = None
shared_fault (Some child) = Some (SharedChild child)

-- t is the parentage of the graph g; if a child is shared, the parents of t are arbitrary
pub record IsParentageOf (g : List (List ℕ)) (t : Parentage) : Type 0 where
  pub rows : t.rows ≡ length g
  pub shared : first_below (length (concat g)) (edge_fault (concat g)) (shared_fault t.shared)
  pub parents : t.shared ≡ None → (c p : ℕ) → HasParent t.parents c p ↔ IsChild g p c
