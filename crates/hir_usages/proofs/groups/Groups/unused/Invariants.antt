use Rattle.std.proofs.Common.{◌≡◌, List, take}
use Rattle.hir_usages.specs.Usages.{unused_among}
use Rattle.hir_usages.specs.declared.usage.Usage.{Usage}
use Rattle.hir_usages.specs.Groups.{AreGroups}
use Rattle.hir_usages.proofs.groups.Groups.unused.Given as goal

abbrev pub invariant-loop-binding : goal.invariant-loop-binding
invariant-loop-binding l =
    (usages : List Usage) → AreGroups usages l.self.by_binding l.self.unresolved.items
    → l.unused ≡ unused_among usages (take l.binding-index l.bound.items)
