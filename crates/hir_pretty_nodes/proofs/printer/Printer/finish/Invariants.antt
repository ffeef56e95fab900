use Rattle.hir_pretty_nodes.specs.Prelude.{doc_list_pieces, docs_of_tokens, printing, size, env_of, printing_of, stacked}
use Rattle.hir_pretty_nodes.proofs.LoopLemmas.{Comes}
use Rattle.hir_pretty_nodes.proofs.printer.Printer.finish.Given as goal

-- what waits comes to the same as what was added
abbrev pub invariant-nodes : goal.invariant-nodes
invariant-nodes g l =
    let s = env_of l.fn.self in Comes g.W.PieceWriter.step s
    (printing g.W.PieceWriter.step l.fn.self.writer (doc_list_pieces s (printing_of l.fn.self).added)) (stacked l.self)

abbrev pub decreases-nodes : goal.decreases-nodes
decreases-nodes g l = size (env_of l.fn.self) (docs_of_tokens (env_of l.fn.self) l.self.tokens.stack.items)
