use Rattle.hir_store_core.proofs.store.ExpressionStore.sizes.Goals as goal

pub returns-clause-few : goal.returns-clause-few
returns-clause-few c = rw c.sizes.ensures c.nodes.ensures.few
