-- Defines what is true of each node and of the roots of a store without a fault.
use Rattle.std.specs.Prelude.{◌≢◌, ◌<◌}
use Rattle.hir_validate.specs.Prelude.{ℕ, suc, IsTrue, length, slice_index, LiesUnder, root_nodes, EndsFit, ends_before}
use Rattle.hir_validate.specs.TestedParts.{TestedParts, ids_in_range, names_paths, gives_self, lists_fit}
use Rattle.hir_validate.specs.Nodes.{Nodes, sizes_of, graph}
use Rattle.hir_validate.specs.Faults.{RootedNodes, ends_of}

-- each id that a node names is in range, each type that it names as a path is one, a function type has a
-- return type, each list of generic arguments that begins with a self type isn't empty, and a `Normal` path
-- has one list for each segment
pub record IsSoundNode (s : Nodes) (x : TestedParts) : Type 0 where
  pub in_range : IsTrue (ids_in_range (sizes_of s) x)
  pub paths : IsTrue (names_paths s.types x.held)
  pub returns : IsTrue x.returns
  pub gives_self : IsTrue (gives_self x.held)
  pub lists_fit : IsTrue (lists_fit x.held)

-- The roots are expressions in range, none is listed twice and none is a descendant of another, and their
-- ends rise up to the lengths of the arenas.
pub record RootsStandApart (c : RootedNodes) : Type 0 where
  pub in_range : (i : ℕ) → i < length c.roots → slice_index (root_nodes c.roots) i < length c.nodes.exprs
  pub listed_once : (i j : ℕ) → i < j → j < length c.roots
      → slice_index (root_nodes c.roots) i ≢ slice_index (root_nodes c.roots) j
  pub not_under : (i j : ℕ) → i < length c.roots → j < length c.roots
      → LiesUnder (graph c.nodes) (slice_index (root_nodes c.roots) i) (slice_index (root_nodes c.roots) j)
      → ⊥
  pub ends_rise : (i : ℕ) → i < length c.roots
      → EndsFit (ends_of c.nodes) (ends_before c.roots i) (ends_before c.roots (suc i))
