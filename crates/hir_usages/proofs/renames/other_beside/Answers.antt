use Rattle.std.proofs.Common.{None, Some, true, false, refl, rules}
use Rattle.hir_usages.proofs.RenameLemmas.{beside_as}
use Rattle.hir_usages.proofs.renames.other_beside.Goals as goal

pub loop-next-preserved-then-not-has_entry : goal.loop-next-preserved-then-not-has_entry
loop-next-preserved-then-not-has_entry c =
    beside_as c.args.scopes.now.scopes c.loop-next.next c.entries-entries.result.now (search rules) c.args.binding c.args.name.now
    c.args.hygiene c.loop-next.invariant false None (search rules) refl

pub returns-in-Some : goal.returns-in-Some
returns-in-Some c =
    beside_as c.args.scopes.now.scopes c.loop-next.next c.entries-entries.result.now (search rules) c.args.binding c.args.name.now
    c.args.hygiene c.loop-next.invariant true (Some c.in-Some.other) (search rules) (search rules)

pub loop-next-preserved : goal.loop-next-preserved
loop-next-preserved c =
    beside_as c.args.scopes.now.scopes c.loop-next.next c.entries-entries.result.now (search rules) c.args.binding c.args.name.now
    c.args.hygiene c.loop-next.invariant true None (search rules) (search rules)
