use Rattle.std.proofs.Common.{Option, ◌∙◌, ap}
use Rattle.hir_node.specs.ChildCalls.{opt, pat_calls}
use Rattle.hir_node.specs.declared.pat.Pat.{Pat}
use Rattle.hir_store_core.specs.JumpTargets.{has_const}
use Rattle.hir_store_core.proofs.ConstLemmas.{pat_const_is}
use Rattle.hir_store_core.proofs.store.ExpressionStore.is_const_of_pat.Goals as goal

pub returns-in-Some : goal.returns-in-Some
returns-in-Some c =
    let at = rw c.in-Some.is at c.get.ensures in
    c.pat_has_const.ensures ∙ pat_const_is c.in-Some.parent.now c.args.expr ∙ ap (λ (o : Option Pat). has_const (opt pat_calls o) c.args.expr) at

pub returns-in-None : goal.returns-in-None
returns-in-None c = ap (λ (o : Option Pat). has_const (opt pat_calls o) c.args.expr) (rw c.in-None.is at c.get.ensures)
