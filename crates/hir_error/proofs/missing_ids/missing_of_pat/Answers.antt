use Rattle.hir_error.specs.declared.named_id.NamedId.TheVariants as named
use Rattle.hir_error.proofs.FindingLemmas.{found_then, may_find}
use Rattle.hir_error.proofs.missing_ids.missing_of_pat.Goals as goal

pub visit_children-requires : goal.visit_children-requires
visit_children-requires c = may_find _ (λ v call. tt) _

pub returns : goal.returns
returns c = (found_then named.Binding _ c.visit_children.ensures c.note_binding.ensures c.binding_of.ensures).1
