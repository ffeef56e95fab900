use Rattle.std.proofs.Common.{ℕ, ◌<◌, List, length}
use Rattle.hir_forest.specs.Forest.{Climbs}
use Rattle.hir_forest.specs.Parents.{HasParents}
use Rattle.hir_forest.specs.internal.Parents.{MeetsMarked}
use Rattle.hir_forest.proofs.chains.meets_listed.Given as goal

abbrev pub invariant-loop : goal.invariant-loop
invariant-loop l = record {
  within : l.at < length l.parents;
  climbs : (g : List (List ℕ)) → HasParents g l.parents → Climbs g l.counter l.node l.at;
  meets : (g : List (List ℕ)) → HasParents g l.parents → MeetsMarked g l.listed l.node → MeetsMarked g l.listed l.at;
}
