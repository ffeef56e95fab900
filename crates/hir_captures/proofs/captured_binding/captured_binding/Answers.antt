use Rattle.std.proofs.Common.{rules}
use Rattle.hir_captures.proofs.AskLemmas.{found_behind, found_within}
use Rattle.hir_captures.proofs.captured_binding.captured_binding.Goals as goal

pub returns-then-outer-outermost : goal.returns-then-outer-outermost
returns-then-outer-outermost c = search (rules, found_behind)

pub returns-else-outer-outermost : goal.returns-else-outer-outermost
returns-else-outer-outermost c = search (rules, found_within)
