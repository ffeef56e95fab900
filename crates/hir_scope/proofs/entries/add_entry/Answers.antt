use Rattle.std.proofs.Common.{rules}
use Rattle.std.proofs.lemmas.{Bool.cases_lt, Bool.false≢true, List.append-nil, Option.slice_get_past}
use Rattle.hir_scope.proofs.entries.add_entry.Goals as goal

pub returns-then-not-has_binding-clause-ok : goal.returns-then-not-has_binding-clause-ok
returns-then-not-has_binding-clause-ok c = search (rules, cases_lt, false≢true, slice_get_past, append-nil)
