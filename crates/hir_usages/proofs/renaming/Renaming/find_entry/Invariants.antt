use Rattle.std.proofs.Common.{◌≡◌, drop, map}
use Rattle.hir_scope.specs.Resolution.{find_entry}
use Rattle.hir_usages.specs.Renames.{renamed_entry}
use Rattle.hir_usages.proofs.renaming.Renaming.find_entry.Given as goal

abbrev pub invariant-loop-entry : goal.invariant-loop-entry
invariant-loop-entry l =
    find_entry l.fn.name l.fn.hygiene (map (renamed_entry l.self.binding l.self.name.now) (drop l.entry-index l.entries))
    ≡ find_entry l.fn.name l.fn.hygiene (map (renamed_entry l.self.binding l.self.name.now) l.entries)
