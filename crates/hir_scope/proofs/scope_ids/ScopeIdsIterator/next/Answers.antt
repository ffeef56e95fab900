use Rattle.std.proofs.Common.{rules}
use Rattle.hir_scope.proofs.PathLemmas.{range_step}
use Rattle.hir_scope.proofs.scope_ids.ScopeIdsIterator.next.Goals as goal

pub returns-clause-steps : goal.returns-clause-steps
returns-clause-steps c = search (rules, range_step)

pub returns-clause-goes : goal.returns-clause-goes
returns-clause-goes c = search (rules, range_step)
