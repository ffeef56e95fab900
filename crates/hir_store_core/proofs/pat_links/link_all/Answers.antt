use Rattle.std.proofs.Common.{◌≡◌, ℕ, suc, List, length, ap, sym, ◌∙◌, subst, arith, add-one}
use Rattle.hir_node.specs.ChildCalls.{child_pats}
use Rattle.hir_store_core.specs.declared.pat_links.PatLink.{PatLink}
use Rattle.hir_store_core.specs.PatLinks.{children_at}
use Rattle.hir_store_core.specs.internal.PatLinks.{link_children}
use Rattle.hir_store_core.proofs.LinkLemmas.{LinkedBefore, children_here, children_low, linked-next}
use Rattle.hir_store_core.proofs.pat_links.link_all.Goals as goal

pub link_children-requires : goal.link_children-requires
link_children-requires c =
    children_low c.args.pats.now c.requires.one_place c.loop-id.id c.index-pats-id.result c.loop-id-test.true c.index-pats-id.is _
    (omega (arith, c.requires.each, c.loop-id.auto.links))

pub loop-id-preserved : goal.loop-id-preserved
loop-id-preserved c =
    let pats = c.args.pats.now in
    let id = c.loop-id.id in
    let children = children_here pats id c.index-pats-id.result c.loop-id-test.true c.index-pats-id.is in
    let len : length c.loop-id.links ≡ length pats = omega (arith, c.requires.each, c.loop-id.auto.links) in
    let next = linked-next pats c.requires.one_place c.loop-id.links id len c.loop-id.invariant in
    let is : link_children id (children_at pats id) c.loop-id.links ≡ c.link_children.new.links =
    ap (λ (ks : List ℕ). link_children id ks c.loop-id.links) children
    ∙ ap (λ (m : ℕ). link_children m (child_pats c.index-pats-id.result) c.loop-id.links) (sym c.from_raw.ensures)
    ∙ sym c.link_children.ensures in
    rw add-one (subst (λ (links : List PatLink). LinkedBefore pats links (suc id)) is next)
