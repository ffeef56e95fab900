use Rattle.hir_pretty_docs.proofs.Common.{codes, map, drop, text, following, AddsRest}
use Rattle.hir_pretty.specs.Signatures.{predicate_docs, each_predicate}
use Rattle.hir_pretty.proofs.generics.add_where.Given as goal

abbrev pub invariant-loop-predicate : goal.invariant-loop-predicate
invariant-loop-predicate l =
    AddsRest l.initial.tokens.stack (λ s. each_predicate s l.predicates) l.tokens.stack
    (λ s. following (text (codes ",\n")) l.after (map (predicate_docs s) (drop l.predicate-index l.predicates)))
