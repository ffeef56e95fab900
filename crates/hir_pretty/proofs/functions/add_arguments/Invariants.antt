use Rattle.hir_pretty_docs.proofs.Common.{codes, map, drop, nat_lt, enumerate_from, text, comma_joined, following, AddsRest}
use Rattle.hir_pretty.specs.internal.AddedDocs.{marked_docs}
use Rattle.hir_pretty.proofs.functions.add_arguments.Given as goal

abbrev pub invariant-loop-at : goal.invariant-loop-at
invariant-loop-at l =
    AddsRest l.fn.tokens.stack (λ s. comma_joined (map (marked_docs l.marks.items) (enumerate_from 0 l.params))) l.tokens.stack
    (λ s. following (text (codes ", ")) (nat_lt 0 l.at) (map (marked_docs l.marks.items) (enumerate_from l.at (drop l.at l.params))))
