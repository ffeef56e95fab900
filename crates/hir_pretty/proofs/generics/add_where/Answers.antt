use Rattle.hir_pretty_docs.proofs.Common.{codes, map, refl, text, adds, adds_then, adds_more, adds_as, left_begins, left_goes_on, left_ends, following_joined, following_step, following_ends}
use Rattle.hir_pretty.specs.Signatures.{predicate_docs}
use Rattle.hir_pretty.proofs.ListLemmas.{some_where}
use Rattle.hir_pretty.proofs.generics.add_where.Goals as goal

pub loop-predicate-init : goal.loop-predicate-init
loop-predicate-init c = left_begins (λ s. following_joined (text (codes ",\n")) (map (predicate_docs s) c.args.predicates.now))

pub loop-predicate-preserved : goal.loop-predicate-preserved
loop-predicate-preserved c = left_goes_on c.loop-predicate.invariant (adds_then c.add_if.ensures c.add_predicate.ensures)
    (λ s. following_step (text (codes ",\n")) (predicate_docs s) c.loop-predicate.after c.args.predicates.now c.loop-predicate.predicate-index c.predicate-item.result c.loop-predicate-test.true c.predicate-item.is)

pub returns : goal.returns
returns c =
    let each = left_ends c.loop-predicate.invariant (λ s. following_ends (text (codes ",\n")) (predicate_docs s) c.loop-predicate.after c.args.predicates.now c.loop-predicate.predicate-index c.loop-predicate-test.false) in
    adds_as (adds_more (adds_then (adds c.add.ensures (λ s. refl)) each) c.add-2.ensures)
    (λ s. some_where s c.args.predicates.now _ c.is_empty.ensures c.if-is_empty.false)
