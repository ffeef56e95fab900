use Rattle.hir_store_core.proofs.store.ExpressionStore.walk_pats_shallow.Goals as goal

pub returns-clause-runs : goal.returns-clause-runs
returns-clause-runs g c = rw c.index.ensures c.walk_child_pats.ensures.runs
