use Rattle.std.proofs.Common.{◌≡◌, drop}
use Rattle.hir_scope.specs.Resolution.{find_entry}
use Rattle.hir_usages.proofs.walk.find_entry.Given as goal

abbrev pub invariant-loop-entry : goal.invariant-loop-entry
invariant-loop-entry l = find_entry l.fn.name l.fn.hygiene (drop l.entry-index l.entries) ≡ find_entry l.fn.name l.fn.hygiene l.entries
