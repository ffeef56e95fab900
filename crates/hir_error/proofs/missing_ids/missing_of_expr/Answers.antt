use Rattle.hir_error.specs.declared.named_id.NamedId.TheVariants as named
use Rattle.hir_error.proofs.FindingLemmas.{found_then, may_find}
use Rattle.hir_error.proofs.missing_ids.missing_of_expr.Goals as goal

pub visit_children-requires : goal.visit_children-requires
visit_children-requires c = may_find _ (λ v call. tt) _

pub returns : goal.returns
returns c = (found_then named.Label _ c.visit_children.ensures c.note_label.ensures c.label_of.ensures).1
