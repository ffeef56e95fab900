use Rattle.hir_pretty_docs.proofs.Common.{take}
use Rattle.hir_collections.specs.Stacks.{Defers}
use Rattle.hir_pretty_docs.proofs.tokens.Tokens.add.Given as goal

abbrev pub invariant-loop-token : goal.invariant-loop-token
invariant-loop-token l = Defers l.fn.self.stack (take l.token-index l.tokens) l.self.stack
