use Rattle.hir_pretty_docs.proofs.Common.{ap, sym, codes, map, nat_lt, enumerate_from, text, arith, comma_joined, adds_as, adds_more, adds_then, left_begins, left_goes_on, left_ends, following_joined}
use Rattle.hir_pretty.specs.internal.AddedDocs.{marked_docs}
use Rattle.hir_pretty.proofs.ListLemmas.{plain_arguments, marked_arguments, marked_step, marked_end}
use Rattle.hir_pretty.proofs.functions.add_arguments.Goals as goal

pub returns-in_default : goal.returns-in_default
returns-in_default c = rw c.in_default.is (adds_as c.add_joined.ensures (λ s. ap comma_joined (sym (plain_arguments 0 c.args.params.now))))

pub loop-at-init : goal.loop-at-init
loop-at-init c = left_begins (λ s. following_joined (text (codes ", ")) (map (marked_docs c.in_ok-marks.marks.items) (enumerate_from 0 c.args.params.now)))

pub loop-at-preserved : goal.loop-at-preserved
loop-at-preserved c = left_goes_on c.loop-at.invariant (adds_more (adds_then c.add_if.ensures c.add_if-in-loop-at.ensures) c.add.ensures)
    (λ s. marked_step (text (codes ", ")) c.in_ok-marks.marks.items c.loop-at.at c.index-params-at.result c.args.params.now c.index.result.now (omega (arith, c.in_ok-marks.ensures.length)) c.loop-at-test.true c.index-params-at.is c.index.ensures)

pub returns : goal.returns
returns c = rw c.in-Some.is (adds_as
    (left_ends c.loop-at.invariant (λ s. marked_end (text (codes ", ")) (nat_lt 0 c.loop-at.at) c.in_ok-marks.marks.items c.loop-at.at c.args.params.now c.loop-at-test.false))
    (λ s. ap comma_joined (marked_arguments c.in_ok-marks.marks.items c.in-Some.places.now 0 c.args.params.now
    (λ i k. c.in_ok-marks.ensures.marks i (omega (arith, k))))))
