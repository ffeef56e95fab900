use Rattle.hir_store_core.proofs.ListLemmas.{one_list_each_is}
use Rattle.hir_store_core.proofs.laws.paths_that_fit_have_one_list_each.Goals as goal

pub returns : goal.returns
returns c = one_list_each_is
