use Rattle.std.specs.Prelude.{count_by, not}
use Rattle.hir_forest.proofs.ChainLemmas.{MarksWay}
use Rattle.hir_forest.proofs.chains.mark_chain.Given as goal

abbrev pub invariant-loop-marked : goal.invariant-loop-marked
invariant-loop-marked l = MarksWay l.parents l.node l.at l.fn.marked l.marked

abbrev pub decreases-loop-marked : goal.decreases-loop-marked
decreases-loop-marked l = count_by not l.marked
