use Rattle.std.proofs.Common.{inl, length, arith}
use Rattle.hir_forest.specs.Verdict.{first_below}
use Rattle.hir_forest.specs.Forest.{ChainEnds}
use Rattle.hir_forest.specs.Faults.{LiesUnderRoot, cycle_fault, root_fault, root_nodes}
use Rattle.hir_forest.proofs.ChainLemmas.{not_under_itself}
use Rattle.hir_forest.proofs.VerdictLemmas.{before-second}
use Rattle.hir_forest.proofs.faults.first_chain_fault.Goals as goal

pub returns-in-Some : goal.returns-in-Some
returns-in-Some c = λ g h. inl (c.in-Some.ensures g h)

pub returns-then-roots-lt2 : goal.returns-then-roots-lt2
returns-then-roots-lt2 c = λ g h. before-second
    (first_below (length g) (cycle_fault (ChainEnds g)))
    (first_below (length c.args.roots.now) (root_fault (LiesUnderRoot g c.args.lengths.exprs (root_nodes c.args.roots.now)) c.args.lengths c.args.roots.now))
    (c.in_default.ensures g h) c.lone_root_fault.result
    (c.lone_root_fault.ensures g (λ n low. not_under_itself g c.args.parents.now h n (c.in_default.ensures g h n (omega (arith, c.requires, h.nodes)))))

pub returns : goal.returns
returns c = λ g h. before-second
    (first_below (length g) (cycle_fault (ChainEnds g)))
    (first_below (length c.args.roots.now) (root_fault (LiesUnderRoot g c.args.lengths.exprs (root_nodes c.args.roots.now)) c.args.lengths c.args.roots.now))
    (c.in_default.ensures g h) c.first_root_fault.result (c.first_root_fault.ensures g h (c.in_default.ensures g h))
