use Rattle.hir_store_core.proofs.TryLemmas.{tries_one}
use Rattle.hir_store_core.proofs.pat_visitors.try_binding.Goals as goal

pub returns-in-Bind-clause-runs : goal.returns-in-Bind-clause-runs
returns-in-Bind-clause-runs g c = rw c.in-Bind.is (tries_one _ c.f.ensures)
