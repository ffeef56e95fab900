use Rattle.std.proofs.Common.{rules}
use Rattle.hir_captures.proofs.ReadLemmas.{defers_all}
use Rattle.hir_captures.proofs.tasks.Tasks.push_in.Goals as goal

pub returns-clause-ok : goal.returns-clause-ok
returns-clause-ok c = search (rules, defers_all)
