use Rattle.hir_validate.proofs.RecursionLemmas.{parent_in_range}
use Rattle.hir_store_core.proofs.laws.parents_are_in_range.Goals as goal

pub returns : goal.returns
returns c = parent_in_range
