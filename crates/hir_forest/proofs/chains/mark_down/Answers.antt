use Rattle.std.proofs.Common.{◌-◌, refl, sym, ◌∙◌, arith}
use Rattle.hir_forest.proofs.ChainLemmas.{ends_at_parent, ends_at_top, ends_with}
use Rattle.hir_forest.proofs.chains.mark_down.Goals as goal
use Rattle.hir_forest.proofs.chains.mark_down.Goals.{in-Some, in-None}

pub loop-node-preserved : goal.loop-node-preserved
loop-node-preserved c = λ g h old.
    let now = c.loop-node.invariant g h old in
    let node = c.loop-node.node - 1 in
    ends_with g c.loop-node.ends node c.match-parent.ends (omega arith) now
    (λ marked. elim c.match-parent.branch [
      | in-Some w ↦ ends_at_parent g c.args.parents.now h node w.in-Some.parent (sym w.in-Some.ensures.parent) (now w.in-Some.parent (sym w.ends-is ∙ marked))
      | in-None w ↦ ends_at_top g c.args.parents.now h 0 node node refl (sym w.in-None.ensures.parent)
    ])
