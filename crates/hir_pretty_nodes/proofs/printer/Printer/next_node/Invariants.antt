use Rattle.std.proofs.Common.{length}
use Rattle.hir_pretty_nodes.specs.Prelude.{stacked, ComesTo}
use Rattle.hir_pretty_nodes.proofs.printer.Printer.next_node.Given as goal

-- what waits comes to the same as what waited
abbrev pub invariant-loop-token : goal.invariant-loop-token
invariant-loop-token g l = ComesTo g.W.PieceWriter.step (stacked l.fn.self) l.self.tokens.stack.items (stacked l.self)

abbrev pub decreases-loop-token : goal.decreases-loop-token
decreases-loop-token g l = length l.self.tokens.stack.items
