use Rattle.hir_store_core.proofs.LinkLemmas.{LinkedBefore}
use Rattle.hir_store_core.proofs.pat_links.link_all.Given as goal

abbrev pub invariant-loop-id : goal.invariant-loop-id
invariant-loop-id l = LinkedBefore l.pats l.links l.id
