-- That `==` of ends, roots and faults decides whether they are the same.
use Rattle.std.specs.Prelude.{◌≡◌}
use Rattle.std.specs.Bool.{Decides}
use Rattle.std.proofs.Common.{rules}
use Rattle.hir_forest.specs.declared.roots.Ends.{Ends}
use Rattle.hir_forest.specs.declared.roots.Root.{Root}
use Rattle.hir_forest.specs.declared.roots.ForestFault.{ForestFault}
use Rattle.hir_forest.specs.contracts.roots.EndsPartialEq.TheImpl as ends
use Rattle.hir_forest.specs.contracts.roots.RootPartialEq.TheImpl as root
use Rattle.hir_forest.specs.contracts.roots.ForestFaultPartialEq.TheImpl as fault

pub ends_decide : (x y : Ends) → Decides (ends.ghosts.eq x y) (x ≡ y)
ends_decide x y = search rules

pub roots_decide : (x y : Root) → Decides (root.ghosts.eq x y) (x ≡ y)
roots_decide x y = search (rules, ends_decide)

pub faults_decide : (x y : ForestFault) → Decides (fault.ghosts.eq x y) (x ≡ y)
faults_decide x y = search rules
