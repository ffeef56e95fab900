use Rattle.hir_pretty_docs.proofs.Common.{drop, segments_from, AddsRest}
use Rattle.hir_pretty_docs.proofs.tokens.Tokens.add_segments.Given as goal

abbrev pub invariant-loop-name : goal.invariant-loop-name
invariant-loop-name l =
    AddsRest l.fn.self.stack (λ s. segments_from s l.fn.after l.names l.fn.lists) l.self.stack (λ s. segments_from s l.after (drop l.name-index l.names) l.lists)
