use Rattle.std.proofs.Common.{sym}
use Rattle.std.proofs.lemmas.Result.{on_err_weaker}
use Rattle.hir_pretty_layout.proofs.PieceLemmas.{on_err, stops_here, stops_inside, stops_at_last, long_plain, long_control, no_escape}
use Rattle.hir_pretty_layout.proofs.literals.write_escaped.Goals as goal

pub returns-in_err-text-clause-err : goal.returns-in_err-text-clause-err
returns-in_err-text-clause-err g c =
    rw (no_escape _ _ (sym c.if-not-is_empty.ensures), long_control _ (sym c.if-is_ascii_control.ensures.value)) (on_err _ (stops_here c.in_err-text.ensures.err))

pub returns-in_err-write_hexadecimal-clause-err : goal.returns-in_err-write_hexadecimal-clause-err
returns-in_err-write_hexadecimal-clause-err g c =
    rw (no_escape _ _ (sym c.if-not-is_empty.ensures), long_control _ (sym c.if-is_ascii_control.ensures.value))
    (on_err _ (stops_inside _ c.in_ok-text.ensures.ok c.in_err-write_hexadecimal.ensures.err))

pub returns-then-is_ascii_control-clause-err : goal.returns-then-is_ascii_control-clause-err
returns-then-is_ascii_control-clause-err g c =
    rw (no_escape _ _ (sym c.if-not-is_empty.ensures), long_control _ (sym c.if-is_ascii_control.ensures.value)) (on_err_weaker _
    (stops_at_last _ _ c.in_ok-text.ensures.ok c.in_ok-write_hexadecimal.ensures.ok) c.text-then-is_ascii_control-2.ensures.err)

pub returns-clause-err : goal.returns-clause-err
returns-clause-err g c =
    rw (no_escape _ _ (sym c.if-not-is_empty.ensures), long_plain _ (sym c.if-is_ascii_control.ensures.value))
    (on_err_weaker _ stops_here (rw c.encode_utf8.ensures.value at c.text-2.ensures.err))
