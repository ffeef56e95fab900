use Rattle.std.proofs.Common.{◌≡◌, take, fold}
use Rattle.hir_usages.specs.Visible.{with_new_name}
use Rattle.hir_usages.proofs.visible.VisibleEntries.add_all.Given as goal

abbrev pub invariant-loop-entry : goal.invariant-loop-entry
invariant-loop-entry l = l.self ≡ fold with_new_name l.initial.self (take l.entry-index l.entries)
