use Rattle.hir_pretty_docs.proofs.Common.{refl, arith, adds, left_begins, left_goes_on, left_ends, supers_more, supers_last}
use Rattle.hir_pretty_docs.proofs.tokens.Tokens.add_supers.Goals as goal

pub loop-left-init : goal.loop-left-init
loop-left-init c = record { some = omega arith; left = left_begins (λ s. refl) }

pub loop-left-preserved : goal.loop-left-preserved
loop-left-preserved c = record {
  some = omega arith;
  left = left_goes_on c.loop-left.invariant.left (adds c.add-in-loop-left.ensures (λ s. refl)) (λ s. supers_more c.loop-left.left (omega arith));
}

pub returns : goal.returns
returns c = left_ends (left_goes_on c.loop-left.invariant.left (adds c.add-2.ensures (λ s. refl))
    (λ s. supers_last c.loop-left.left (omega arith) (omega arith))) (λ s. refl)
