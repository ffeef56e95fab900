use Rattle.hir_pretty_docs.proofs.Common.{codes, enumerate_from, text, following, AddsRest}
use Rattle.hir_pretty.specs.Signatures.{each_type_or_const}
use Rattle.hir_pretty.proofs.generics.add_types_and_consts.Given as goal

abbrev pub invariant-loop-at : goal.invariant-loop-at
invariant-loop-at l =
    AddsRest l.fn.tokens.stack (λ s. following (text (codes ", ")) l.first (each_type_or_const s (enumerate_from 0 l.params.type_or_consts))) l.tokens.stack
    (λ s. following (text (codes ", ")) l.after (each_type_or_const s l.at-iterator))
