use Rattle.hir_pretty_nodes.proofs.Common.{◌≡◌, length, is_word}
use Rattle.hir_pretty_nodes.proofs.names.is_word.Given as goal

-- it is among the words where it is among those that are left
abbrev pub invariant-loop-rest : goal.invariant-loop-rest
invariant-loop-rest l = is_word l.words l.name ≡ is_word l.rest l.name

abbrev pub decreases-loop-rest : goal.decreases-loop-rest
decreases-loop-rest l = length l.rest
