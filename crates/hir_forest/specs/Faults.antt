-- Defines the first fault of a graph and its roots. Shared children come before cycles, and both before the
-- faults of roots.
use Rattle.std.specs.Prelude.{ℕ, suc, ◌<◌, ◌≤◌, List, ◌∷◌, Option, map, length, take, slice_index, slice_index_or, Contains}
use Rattle.std.specs.List.{concat}
use Rattle.hir_forest.specs.declared.roots.Ends.{Ends}
use Rattle.hir_forest.specs.declared.roots.Root.{Root}
use Rattle.hir_forest.specs.declared.roots.ForestFault.{ForestFault}
use Rattle.hir_forest.specs.declared.roots.ForestFault.TheVariants.{SharedChild, Cycle, RootOutOfRange, RootRepeated, RootUnderRoot, RootEnds}
use Rattle.hir_forest.specs.Verdict.{◌unless◌, ◌before◌, first_below}
use Rattle.hir_forest.specs.Forest.{ChainEnds, LiesUnder}

abbrev pub root_nodes : List Root → List ℕ
root_nodes roots = map (λ r. r.node) roots

-- c is a descendant of a listed root, which is a node below limit
abbrev pub LiesUnderRoot : List (List ℕ) → ℕ → List ℕ → ℕ → Type 0
LiesUnderRoot g limit roots c = (r : ℕ) × Contains roots r × (r < limit) × LiesUnder g c r

-- each end is at most the length of its arena, and at least that of the root before
abbrev pub EndsFit : Ends → Ends → Ends → Type 0
EndsFit lengths earlier ends =
    (earlier.exprs ≤ ends.exprs) × (ends.exprs ≤ lengths.exprs)
    × (earlier.pats ≤ ends.pats) × (ends.pats ≤ lengths.pats)
    × (earlier.bindings ≤ ends.bindings) × (ends.bindings ≤ lengths.bindings)

abbrev pub no_ends : Ends
no_ends = record { exprs = 0; pats = 0; bindings = 0 }

-- the ends of the root before root i; before root 0 they are 0
abbrev pub ends_before : List Root → ℕ → Ends
ends_before roots i = slice_index_or (no_ends ∷ map (λ r. r.ends) roots) i no_ends

-- the fault that the child of edge e is the child of an earlier edge
abbrev pub edge_fault : List ℕ → ℕ → Option ForestFault → Type 0
edge_fault children e =
    SharedChild (slice_index children e) unless (Contains (take e children) (slice_index children e) → ⊥)

-- the fault that the chain of node n doesn't end
abbrev pub cycle_fault : (ℕ → Type 0) → ℕ → Option ForestFault → Type 0
cycle_fault Ends n = Cycle n unless Ends n

-- the first fault of root i: it isn't below lengths.exprs, is listed earlier, is a descendant of another
-- root, or its ends don't fit
abbrev pub root_fault : (ℕ → Type 0) → Ends → List Root → ℕ → Option ForestFault → Type 0
root_fault IsUnder lengths roots i =
    (RootOutOfRange i unless (slice_index (root_nodes roots) i < lengths.exprs))
    before (RootRepeated i
    unless (Contains (take i (root_nodes roots)) (slice_index (root_nodes roots) i) → ⊥))
    before (RootUnderRoot i unless (IsUnder (slice_index (root_nodes roots) i) → ⊥))
    before (RootEnds i unless EndsFit lengths (ends_before roots i) (ends_before roots (suc i)))

-- the first fault of the graph and its roots
unfoldable pub forest_fault : List (List ℕ) → Ends → List Root → Option ForestFault → Type 0
forest_fault g lengths roots =
    first_below (length (concat g)) (edge_fault (concat g))
    before first_below (length g) (cycle_fault (ChainEnds g))
    before first_below (length roots)
    (root_fault (LiesUnderRoot g lengths.exprs (root_nodes roots)) lengths roots)

-- the fault names one of so many nodes, or one of so many roots
abbrev pub IsWithin : ℕ → ℕ → ForestFault → Type 0
IsWithin nodes roots (SharedChild n) = n < nodes
IsWithin nodes roots (Cycle n) = n < nodes
IsWithin nodes roots (RootOutOfRange i) = i < roots
IsWithin nodes roots (RootRepeated i) = i < roots
IsWithin nodes roots (RootUnderRoot i) = i < roots
IsWithin nodes roots (RootEnds i) = i < roots
