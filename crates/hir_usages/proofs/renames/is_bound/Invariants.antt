use Rattle.std.proofs.Common.{◌≡◌, drop}
use Rattle.std.specs.List.{list_any}
use Rattle.hir_scope.specs.Scopes.{Scope}
use Rattle.hir_usages.specs.Renames.{has_entry}
use Rattle.hir_usages.proofs.renames.is_bound.Given as goal

abbrev pub invariant-loop-next : goal.invariant-loop-next
invariant-loop-next l =
    list_any (λ (s : Scope). has_entry l.fn.binding s.entries) (drop l.next l.scopes.scopes)
    ≡ list_any (λ (s : Scope). has_entry l.fn.binding s.entries) l.scopes.scopes
