use Rattle.std.proofs.Common.{◌≡◌, ◌<◌, ◌∷◌, length}
use Rattle.std.specs.List.{AllByRecursion}
use Rattle.hir_node.specs.ChildCalls.{child_pats}
use Rattle.hir_store_core.specs.internal.PatLinks.{link_children}
use Rattle.hir_store_core.proofs.pat_links.link_children.Given as goal

-- the links of this child and of those after it are still to be set
abbrev pub invariant-loop-next : goal.invariant-loop-next
invariant-loop-next l = record {
  next : goal.iterator-loop-next.can_next l.next-iterator;
  finite : goal.iterator-loop-next.is_finite l.next-iterator;
  low : AllByRecursion (λ k. k < length l.fn.links) (l.child ∷ l.next-iterator);
  is : link_children l.parent (l.child ∷ l.next-iterator) l.links ≡ link_children l.parent (child_pats l.pat) l.fn.links;
}
