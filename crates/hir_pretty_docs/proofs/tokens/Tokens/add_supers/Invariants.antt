use Rattle.hir_pretty_docs.proofs.Common.{◌<◌, supers, AddsRest}
use Rattle.hir_pretty_docs.proofs.tokens.Tokens.add_supers.Given as goal

abbrev pub invariant-loop-left : goal.invariant-loop-left
invariant-loop-left l = record { some : 0 < l.left; left : AddsRest l.fn.self.stack (λ s. supers l.times) l.self.stack (λ s. supers l.left) }

abbrev pub decreases-loop-left : goal.decreases-loop-left
decreases-loop-left l = l.left
