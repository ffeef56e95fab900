use Rattle.std.proofs.Common.{◌≡◌, drop}
use Rattle.hir_usages.specs.Renames.{first_conflict}
use Rattle.hir_usages.proofs.renaming.Renaming.first_conflict.Given as goal

abbrev pub invariant-loop-usage : goal.invariant-loop-usage
invariant-loop-usage l =
    first_conflict l.self.store.now l.self.scopes.now l.self.binding l.self.name.now (drop l.usage-index l.usages)
    ≡ first_conflict l.self.store.now l.self.scopes.now l.self.binding l.self.name.now l.usages
