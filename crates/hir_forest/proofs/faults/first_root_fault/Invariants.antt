use Rattle.std.proofs.Common.{◌≡◌, ℕ, ◌<◌, List, None, length, take}
use Rattle.hir_forest.specs.Forest.{ChainEnds}
use Rattle.hir_forest.specs.internal.Forest.{MarksAll}
use Rattle.hir_forest.specs.Faults.{LiesUnderRoot, root_nodes, root_fault, ends_before}
use Rattle.hir_forest.specs.Parents.{HasParents}
use Rattle.hir_forest.specs.internal.Parents.{AreClear}
use Rattle.hir_forest.proofs.faults.first_root_fault.Given as goal

abbrev pub invariant-loop-i : goal.invariant-loop-i
invariant-loop-i l = record {
  seen : MarksAll l.seen (take l.i (root_nodes l.roots));
  earlier : l.earlier ≡ ends_before l.roots l.i;
  clear : (g : List (List ℕ)) → HasParents g l.parents → ((n : ℕ) → n < length g → ChainEnds g n) → AreClear g l.listed l.clear;
  fine : (g : List (List ℕ)) → HasParents g l.parents → ((n : ℕ) → n < length g → ChainEnds g n)
      → (j : ℕ) → j < l.i → root_fault (LiesUnderRoot g l.lengths.exprs (root_nodes l.roots)) l.lengths l.roots j None;
}
