use Rattle.hir_pretty_docs.proofs.Common.{length, field_patterns, AddsRest}
use Rattle.hir_pretty_docs.proofs.tokens.Tokens.add_record_pat.Given as goal

abbrev pub invariant-loop-left : goal.invariant-loop-left
invariant-loop-left l = AddsRest l.initial.self.stack (λ s. field_patterns s l.rest l.fields) l.self.stack (λ s. field_patterns s l.rest l.left)

abbrev pub decreases-loop-left : goal.decreases-loop-left
decreases-loop-left l = length l.left
