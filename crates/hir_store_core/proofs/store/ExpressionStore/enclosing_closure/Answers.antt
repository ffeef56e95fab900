use Rattle.std.proofs.Common.{◌∙◌}
use Rattle.hir_store_core.proofs.NearestLemmas.{closure_found}
use Rattle.hir_store_core.proofs.store.ExpressionStore.enclosing_closure.Goals as goal

pub returns : goal.returns
returns c = c.nearest.ensures ∙ closure_found c.args.self.now.nodes c.args.expr
