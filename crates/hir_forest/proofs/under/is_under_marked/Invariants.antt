use Rattle.std.proofs.Common.{ℕ, ◌<◌, ◌↔◌, List, length}
use Rattle.hir_forest.specs.Forest.{Climbs, LiesUnderMarked}
use Rattle.hir_forest.specs.Parents.{HasParents}
use Rattle.hir_forest.proofs.under.is_under_marked.Given as goal

abbrev pub invariant-loop : goal.invariant-loop
invariant-loop l = record {
  within : l.at < length l.parents;
  climbs : (g : List (List ℕ)) → HasParents g l.parents → Climbs g l.counter l.node l.at;
  same : (g : List (List ℕ)) → HasParents g l.parents → LiesUnderMarked g l.marked l.node ↔ LiesUnderMarked g l.marked l.at;
}
