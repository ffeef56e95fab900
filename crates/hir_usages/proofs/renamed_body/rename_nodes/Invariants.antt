use Rattle.std.proofs.Common.{◌≡◌, fold, take}
use Rattle.hir_usages.specs.internal.RenamedUses.{rename_use}
use Rattle.hir_usages.proofs.renamed_body.rename_nodes.Given as goal

abbrev pub invariant-loop-usage : goal.invariant-loop-usage
invariant-loop-usage l = l.nodes ≡ fold (rename_use l.name) l.initial.nodes (take l.usage-index l.usages)
