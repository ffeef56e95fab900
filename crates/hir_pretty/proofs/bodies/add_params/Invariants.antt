use Rattle.hir_pretty_docs.proofs.Common.{◌++◌, map, drop, codes, p, text, comma_joined, following, AddsRest}
use Rattle.hir_body.specs.Bodies.{formals_of}
use Rattle.hir_pretty.specs.Bodies.{formal_self, formal_params}
use Rattle.hir_pretty.proofs.bodies.add_params.Given as goal

abbrev pub invariant-loop-param : goal.invariant-loop-param
invariant-loop-param l =
    AddsRest l.fn.tokens.stack (λ s. text (codes "(") ++ comma_joined (formal_params s (formal_self l.self_param) (formals_of l.params))) l.tokens.stack
    (λ s. following (text (codes ", ")) l.after (map p (formals_of (drop l.param-index l.params))))
