use Rattle.std.proofs.Common.{Option, ◌∙◌, ap}
use Rattle.hir_node.specs.ChildCalls.{opt, type_calls}
use Rattle.hir_node.specs.declared.type_ref.TypeRef.{TypeRef}
use Rattle.hir_store_core.specs.JumpTargets.{has_const}
use Rattle.hir_store_core.proofs.ConstLemmas.{type_const_is}
use Rattle.hir_store_core.proofs.store.ExpressionStore.is_const_of_type.Goals as goal

pub returns-in-Some : goal.returns-in-Some
returns-in-Some c =
    let at = rw c.in-Some.is at c.get.ensures in
    c.type_has_const.ensures ∙ type_const_is c.in-Some.parent.now c.args.expr ∙ ap (λ (o : Option TypeRef). has_const (opt type_calls o) c.args.expr) at

pub returns-in-None : goal.returns-in-None
returns-in-None c = ap (λ (o : Option TypeRef). has_const (opt type_calls o) c.args.expr) (rw c.in-None.is at c.get.ensures)
