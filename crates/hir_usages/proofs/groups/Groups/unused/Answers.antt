use Rattle.std.proofs.Common.{arith, rules}
use Rattle.std.proofs.lemmas.Grind.{common_steps}
use Rattle.hir_usages.proofs.GroupLemmas.{is_unused_where, is_used_where, unused_more}
use Rattle.hir_usages.proofs.groups.Groups.unused.Goals as goal

pub loop-binding-preserved-then-of-gt0 : goal.loop-binding-preserved-then-of-gt0
loop-binding-preserved-then-of-gt0 c = λ usages are.
    let used = is_used_where usages c.binding-item.result c.of.result.now (search (rules, are.each)) c.if-of-gt0.true in
    grind (arith, common_steps, c.loop-binding.invariant usages are, unused_more)

pub loop-binding-preserved : goal.loop-binding-preserved
loop-binding-preserved c = λ usages are.
    let unused = is_unused_where usages c.binding-item.result c.of.result.now (search (rules, are.each)) (omega arith) in
    grind (arith, common_steps, c.loop-binding.invariant usages are, unused_more)
