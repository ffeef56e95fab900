use Rattle.std.proofs.Common.{◌≡◌, take}
use Rattle.hir_usages.specs.Usages.{usages_of}
use Rattle.hir_usages.proofs.renames.usages_of.Given as goal

abbrev pub invariant-loop-usage : goal.invariant-loop-usage
invariant-loop-usage l = l.found.items ≡ usages_of l.fn.binding (take l.usage-index l.usages)
