use Rattle.hir_pretty_docs.proofs.Common.{codes, drop, text, comma_joined, params, following, AddsRest}
use Rattle.hir_pretty_docs.proofs.tokens.Tokens.add_params.Given as goal

abbrev pub invariant-loop-arg : goal.invariant-loop-arg
invariant-loop-arg l =
    AddsRest l.fn.self.stack (λ s. comma_joined (params l.args l.fn.types)) l.self.stack
    (λ s. following (text (codes ", ")) l.after (params (drop l.arg-index l.args) l.types))
