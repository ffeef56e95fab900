use Rattle.std.proofs.Common.{rules}
use Rattle.hir_usages.proofs.FindLemmas.{first_tasks, first_in_range, first_visits}
use Rattle.hir_usages.proofs.usages.first_visits.Goals as goal

pub returns-clause-ahead : goal.returns-clause-ahead
returns-clause-ahead c = search (rules, first_tasks, first_visits)

pub returns-clause-in_range : goal.returns-clause-in_range
returns-clause-in_range c = search (rules, first_tasks, first_in_range)
