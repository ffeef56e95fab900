use Rattle.std.proofs.Common.{arith}
use Rattle.hir_forest.specs.declared.roots.Root.{Root}
use Rattle.hir_forest.specs.Faults.{no_ends}
use Rattle.hir_forest.proofs.MarkLemmas.{roots_more, roots_same}
use Rattle.hir_forest.proofs.faults.mark_roots.Goals as goal
use Rattle.hir_forest.proofs.faults.mark_roots.Goals.{then-root-limit, else-root-limit}

pub loop-root-preserved : goal.loop-root-preserved
loop-root-preserved c =
    let none : Root = record { node = 0; ends = no_ends } in
    let i = c.loop-root.root-index in
    elim c.if-root-limit.branch [
      | then-root-limit w ↦
          rw w.marked-is (roots_more c.loop-root.marked c.args.roots.now i c.args.limit none c.loop-root-test.true c.loop-root.invariant w.if-root-limit.true (omega (arith, c.requires.within, c.loop-root.auto.marked)))
      | else-root-limit w ↦
          rw w.marked-is (roots_same c.loop-root.marked c.args.roots.now i c.args.limit none c.loop-root-test.true c.loop-root.invariant w.if-root-limit.false)
    ]
