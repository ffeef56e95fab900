use Rattle.std.proofs.Common.{◌≡◌, ℕ, ◌<◌, List, ◌∷◌, length, ap, sym, ◌∙◌, subst}
use Rattle.std.specs.List.{AllByRecursion}
use Rattle.hir_node.specs.ChildCalls.{child_pats}
use Rattle.hir_store_core.specs.internal.PatLinks.{link_children}
use Rattle.hir_store_core.proofs.LinkLemmas.{all_from_contains}
use Rattle.hir_store_core.proofs.pat_links.link_children.Goals as goal

pub loop-next-init : goal.loop-next-init
loop-next-init c =
    let links = c.args.links.now in
    let children : child_pats c.args.pat.now ≡ c.in-Some.first ∷ c.into_iter-next-iterator.result =
    sym c.child_pats-children.ensures ∙ c.in-Some.ensures.steps ∙ ap (λ (t : List ℕ). c.in-Some.first ∷ t) (sym c.into_iter-next-iterator.ensures.into_iter_gives) in
    let low = all_from_contains (λ (k : ℕ). k < length links) (child_pats c.args.pat.now) (λ k d. subst (λ (n : ℕ). n < length links) d.2 (c.requires d.0 k d.1)) in
    record {
      next = tt;
      finite = tt;
      low = subst (λ (ks : List ℕ). AllByRecursion (λ (k : ℕ). k < length links) ks) children low;
      is = ap (λ (ks : List ℕ). link_children c.args.parent ks links) (sym children);
    }

pub loop-next-preserved : goal.loop-next-preserved
loop-next-preserved c =
    let all = link_children c.args.parent (child_pats c.args.pat.now) c.args.links.now in
    let low = subst (λ (ks : List ℕ). AllByRecursion (λ (k : ℕ). k < length c.args.links.now) (c.loop-next.child ∷ ks)) c.in-Some-next.ensures.steps c.loop-next.invariant.low in
    let is = subst (λ (ks : List ℕ). link_children c.args.parent (c.loop-next.child ∷ ks) c.loop-next.links ≡ all) c.in-Some-next.ensures.steps c.loop-next.invariant.is in
    record { next = tt; finite = tt; low = low.1; is = rw c.into_raw.ensures is }
