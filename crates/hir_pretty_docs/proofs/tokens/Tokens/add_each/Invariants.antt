use Rattle.hir_pretty_docs.proofs.Common.{drop, flat_map, stood_after, AddsRest}
use Rattle.hir_pretty_docs.proofs.tokens.Tokens.add_each.Given as goal

abbrev pub invariant-loop-member : goal.invariant-loop-member
invariant-loop-member g l =
    AddsRest l.fn.self.stack (λ s. flat_map (λ x. stood_after s (g.T.Part.docs s x) l.trailer) l.members) l.self.stack
    (λ s. flat_map (λ x. stood_after s (g.T.Part.docs s x) l.trailer) (drop l.member-index l.members))
