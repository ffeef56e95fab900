use Rattle.std.proofs.Common.{◌≡◌, drop}
use Rattle.hir_usages.specs.Renames.{first_some, other_of}
use Rattle.hir_usages.proofs.renames.first_other.Given as goal

abbrev pub invariant-loop-entry : goal.invariant-loop-entry
invariant-loop-entry l =
    first_some (other_of l.fn.binding l.name l.fn.hygiene) (drop l.entry-index l.entries)
    ≡ first_some (other_of l.fn.binding l.name l.fn.hygiene) l.entries
