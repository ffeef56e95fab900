use Rattle.hir_pretty_docs.proofs.Common.{map, drop, text, following, AddsRest}
use Rattle.hir_pretty_docs.proofs.tokens.Tokens.add_list.Given as goal

abbrev pub invariant-loop-member : goal.invariant-loop-member
invariant-loop-member g l =
    AddsRest l.fn.self.stack (λ s. following (text l.between) l.fn.after (map (g.T.Part.docs s) l.members)) l.self.stack
    (λ s. following (text l.between) l.after (map (g.T.Part.docs s) (drop l.member-index l.members)))
