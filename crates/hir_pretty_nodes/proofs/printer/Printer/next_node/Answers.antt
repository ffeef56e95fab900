use Rattle.hir_pretty_nodes.proofs.Common.{refl, err_from_is_err_and, stacked, comes_taken, comes_written, comes_missing}
use Rattle.hir_pretty_nodes.proofs.printer.Printer.next_node.Goals as goal

pub loop-token-preserved : goal.loop-token-preserved
loop-token-preserved g c = comes_written (comes_taken c.loop-token.invariant c.in-Some.ensures.some refl refl) c.in_ok-write_token.ensures.ok

pub returns-in_err-write_token-clause-missing : goal.returns-in_err-write_token-clause-missing
returns-in_err-write_token-clause-missing g c = λ m e.
    comes_missing {taken = record (stacked c.loop-token.self) { tokens = c.pop.new.self }} (comes_taken c.loop-token.invariant c.in-Some.ensures.some refl refl)
    (c.in_err-write_token.ensures.missing m (let p = err_from_is_err_and c.from_residual.result c.from_residual.ensures.1 in let h = p.1 in let k = p.2 in cc))
