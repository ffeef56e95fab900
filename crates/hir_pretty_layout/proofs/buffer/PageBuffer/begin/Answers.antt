use Rattle.std.proofs.Common.{arith}
use Rattle.hir_pretty_layout.proofs.EndLemmas.{kept_spaces}
use Rattle.hir_pretty_layout.proofs.buffer.PageBuffer.begin.Goals as goal
use Rattle.std.proofs.lemmas.Grind.{common_steps}

pub invariant_of-self-2 : goal.invariant_of-self-2
invariant_of-self-2 c = grind (arith, common_steps, kept_spaces)
