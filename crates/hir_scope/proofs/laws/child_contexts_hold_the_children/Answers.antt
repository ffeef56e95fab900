use Rattle.hir_scope.proofs.ChildLemmas.{child_contexts_children}
use Rattle.hir_scope.proofs.laws.child_contexts_hold_the_children.Goals as goal

pub returns : goal.returns
returns c = child_contexts_children
