use Rattle.std.proofs.Common.{◌≡◌, drop}
use Rattle.hir_scope.specs.Scopes.{Scope}
use Rattle.hir_usages.specs.Renames.{first_some, other_among}
use Rattle.hir_usages.proofs.renames.other_beside.Given as goal

abbrev pub invariant-loop-next : goal.invariant-loop-next
invariant-loop-next l =
    first_some (λ (s : Scope). other_among l.fn.binding l.name l.fn.hygiene s.entries) (drop l.next l.scopes.scopes)
    ≡ first_some (λ (s : Scope). other_among l.fn.binding l.name l.fn.hygiene s.entries) l.scopes.scopes
