use Rattle.hir_validate.proofs.RangeLemmas.{calls_are_tested, may_test}
use Rattle.hir_validate.proofs.range.path_is_in_range.Goals as goal

pub on_path-requires : goal.on_path-requires
on_path-requires c = may_test _ (λ v call. tt) _

pub returns : goal.returns
returns c = (calls_are_tested c.on_path.ensures).1
