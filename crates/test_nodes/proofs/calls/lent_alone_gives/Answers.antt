use Rattle.hir_node.proofs.RunLemmas.{may_freely}
use Rattle.test_nodes.proofs.calls.lent_alone_gives.Goals as goal

-- src/calls.rt
pub visit_both-requires : goal.visit_both-requires
visit_both-requires c = λ v cs. may_freely cs
