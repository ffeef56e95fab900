use Rattle.hir_pretty_docs.proofs.Common.{codes, false, map, ℕ, text, name_docs, following, AddsRest}
use Rattle.hir_signature.specs.declared.param_data.LifetimeParamData.{LifetimeParamData}
use Rattle.hir_pretty.specs.Signatures.{each_lifetime}
use Rattle.hir_pretty.proofs.generics.add_lifetimes.Given as goal

abbrev pub invariant-loop-lifetime : goal.invariant-loop-lifetime
invariant-loop-lifetime l =
    AddsRest l.fn.tokens.stack (λ s. following (text (codes ", ")) false (each_lifetime s l.params.lifetimes)) l.tokens.stack
    (λ s. following (text (codes ", ")) l.after (map (λ (entry : ℕ × LifetimeParamData). name_docs s entry.1.name) l.lifetime-iterator))
