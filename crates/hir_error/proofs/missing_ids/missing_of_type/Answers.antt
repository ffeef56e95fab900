use Rattle.hir_error.proofs.FindingLemmas.{calls_found, may_find}
use Rattle.hir_error.proofs.missing_ids.missing_of_type.Goals as goal

pub visit_children-requires : goal.visit_children-requires
visit_children-requires c = may_find _ (λ v call. tt) _

pub returns : goal.returns
returns c = (calls_found c.visit_children.ensures).1
