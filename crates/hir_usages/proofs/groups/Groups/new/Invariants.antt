use Rattle.std.proofs.Common.{take}
use Rattle.hir_usages.specs.Groups.{AreGroups}
use Rattle.hir_usages.proofs.groups.Groups.new.Given as goal

abbrev pub invariant-loop-usage : goal.invariant-loop-usage
invariant-loop-usage l = AreGroups (take l.usage-index l.usages.items) l.groups.by_binding l.groups.unresolved.items
