use Rattle.hir_validate.proofs.RangeLemmas.{calls_are_tested, may_test}
use Rattle.hir_validate.proofs.range.bound_is_in_range.Goals as goal

pub on_type_bound-requires : goal.on_type_bound-requires
on_type_bound-requires c = may_test _ (λ v call. tt) _

pub returns : goal.returns
returns c = (calls_are_tested c.on_type_bound.ensures).1
