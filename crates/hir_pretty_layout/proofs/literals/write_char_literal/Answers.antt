use Rattle.std.proofs.lemmas.Result.{on_err_weaker}
use Rattle.hir_pretty_layout.proofs.PieceLemmas.{on_err, stops_here, stops_inside, stops_at_last}
use Rattle.hir_pretty_layout.proofs.literals.write_char_literal.Goals as goal

pub returns-in_err-text-clause-err : goal.returns-in_err-text-clause-err
returns-in_err-text-clause-err g c = on_err _ (stops_here c.in_err-text.ensures.err)

pub returns-in_err-write_escaped-clause-err : goal.returns-in_err-write_escaped-clause-err
returns-in_err-write_escaped-clause-err g c = on_err _ (stops_inside _ c.in_ok-text.ensures.ok (rw c.short_escape.ensures at c.in_err-write_escaped.ensures.err))

pub returns-clause-err : goal.returns-clause-err
returns-clause-err g c = on_err_weaker _ (stops_at_last _ _ c.in_ok-text.ensures.ok (rw c.short_escape.ensures at c.in_ok-write_escaped.ensures.ok)) c.text-2.ensures.err
