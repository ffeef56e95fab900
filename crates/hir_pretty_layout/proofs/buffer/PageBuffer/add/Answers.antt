use Rattle.std.proofs.Common.{arith}
use Rattle.hir_pretty_layout.proofs.EndLemmas.{kept_part, kept_blank}
use Rattle.hir_pretty_layout.proofs.buffer.PageBuffer.add.Goals as goal
use Rattle.std.proofs.lemmas.Grind.{common_steps}

pub invariant_of-self-then-of_part-gt0 : goal.invariant_of-self-then-of_part-gt0
invariant_of-self-then-of_part-gt0 c = grind (arith, common_steps, kept_part)

pub invariant_of-self-else-of_part-gt0 : goal.invariant_of-self-else-of_part-gt0
invariant_of-self-else-of_part-gt0 c = grind (arith, common_steps, kept_blank)
