use Rattle.std.proofs.Common.{◌≡◌, ◌∙◌, ap, sym, None}
use Rattle.std.specs.Prelude.{Some}
use Rattle.hir_store_core.specs.Contents.{rooted_of}
use Rattle.hir_store_core.proofs.KeptLemmas.{no_node}
use Rattle.hir_store_core.proofs.AncestorLemmas.{absent_has_none, told_none, told_some, told_within}
use Rattle.hir_store_core.proofs.store.ExpressionStore.parent.Goals as goal

pub returns-in_err-kept : goal.returns-in_err-kept
returns-in_err-kept c =
    let s = c.args.self.now.nodes in
    c.from_residual.ensures ∙ sym (absent_has_none (rooted_of c.args.self.now) c.has_no_fault.ensures c.args.node (no_node s (c.kept_parts.ensures.none c.in_err-kept.was) c.args.node))

pub returns-in_err-place : goal.returns-in_err-place
returns-in_err-place c =
    let out = rw c.sizes-sizes.ensures.sizes at (c.place.ensures.none c.in_err-place.was) in
    c.from_residual-in_err-place.ensures ∙ sym (absent_has_none (rooted_of c.args.self.now) c.has_no_fault.ensures c.args.node out)

pub returns-in_err-place-2 : goal.returns-in_err-place-2
returns-in_err-place-2 c =
    c.from_residual-in_err-place-2.ensures ∙ sym (told_none (rooted_of c.args.self.now) c.has_no_fault.ensures c.sizes-sizes.result c.sizes-sizes.ensures.sizes
    c.in_ok-kept.kept.now.parents.parents c.in_ok-kept.ensures.parents c.args.node c.in_ok-place.field-0 c.in_ok-place.ensures.place (sym c.in_err-place-2.was ∙ c.parent.ensures))

pub node_at-requires-clause-within : goal.node_at-requires-clause-within
node_at-requires-clause-within c =
    told_within (rooted_of c.args.self.now) c.has_no_fault.ensures c.sizes-sizes.result c.sizes-sizes.ensures.sizes
    c.in_ok-kept.kept.now.parents.parents c.in_ok-kept.ensures.parents c.args.node c.in_ok-place.field-0 c.in_ok-place.ensures.place c.in_ok-place-2.place (sym c.in_ok-place-2.was ∙ c.parent.ensures)

pub returns : goal.returns
returns c =
    ap Some c.node_at.ensures ∙ sym (told_some (rooted_of c.args.self.now) c.has_no_fault.ensures c.sizes-sizes.result c.sizes-sizes.ensures.sizes
    c.in_ok-kept.kept.now.parents.parents c.in_ok-kept.ensures.parents c.args.node c.in_ok-place.field-0 c.in_ok-place.ensures.place c.in_ok-place-2.place (sym c.in_ok-place-2.was ∙ c.parent.ensures))
