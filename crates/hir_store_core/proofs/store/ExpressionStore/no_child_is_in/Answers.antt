use Rattle.std.proofs.Common.{◌+◌, ◌∙◌, ap, length, refl, sym}
use Rattle.hir_validate.specs.declared.sizes.Sizes.{Sizes}
use Rattle.hir_validate.proofs.FaultLemmas.{graph-length}
use Rattle.hir_store_core.specs.NodeSets.{MarkedNodes}
use Rattle.hir_store_core.proofs.KeptLemmas.{no_node}
use Rattle.hir_store_core.proofs.UnderLemmas.{no_child_told}
use Rattle.hir_store_core.proofs.store.ExpressionStore.no_child_is_in.Goals as goal

pub marked_have_none-requires : goal.marked_have_none-requires
marked_have_none-requires c =
    let s = c.args.self.now.nodes in
    let sizes = ap (λ (t : MarkedNodes). t.sizes) c.set.view_is ∙ c.requires in
    ap length c.as_slice.ensures.value ∙ c.set.invariant ∙ ap (λ (z : Sizes). z.exprs + z.pats + z.types) sizes ∙ sym (graph-length s) ∙ sym c.in-Some.ensures.parents.nodes

pub returns-in-Some : goal.returns-in-Some
returns-in-Some c =
    no_child_told c.args.self.now.nodes c.args.set.now c.as_slice.result.now c.in-Some.kept.now.parents.parents c.marked_have_none.result
    (c.as_slice.ensures.value ∙ ap (λ (t : MarkedNodes). t.marks) c.set.view_is) c.requires c.in-Some.ensures.parents c.marked_have_none.ensures

pub returns-in-None : goal.returns-in-None
returns-in-None c = (λ _ m n has child is. no_node c.args.self.now.nodes (c.kept_parts.ensures.none c.in-None.is) m has, λ _. refl)
