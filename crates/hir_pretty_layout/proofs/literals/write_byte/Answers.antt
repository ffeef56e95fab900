use Rattle.std.proofs.Common.{◌≡◌, ℕ, true, List, length, ◌==◌, sym, arith, rules}
use Rattle.std.proofs.lemmas.Bool.Decides.{nat_tests}
use Rattle.std.proofs.lemmas.Result.{on_err_weaker}
use Rattle.std.proofs.lemmas.Str.{encode_ascii}
use Rattle.hir_pretty_layout.specs.Literals.{escape_in_bytes, byte_escape, byte_pieces}
use Rattle.hir_pretty_layout.proofs.PieceLemmas.{on_err, no_escape, stops_here, stops_next, byte_plain, byte_coded}
use Rattle.hir_pretty_layout.proofs.literals.write_byte.Goals as goal

unescaped : (b : ℕ) (escape : List ℕ) → escape ≡ escape_in_bytes b → true ≡ (length escape == 0) → byte_pieces b ≡ byte_escape b
unescaped b escape e empty = no_escape (escape_in_bytes b) (byte_escape b) (sym (rw e at empty))

pub returns-in_err-text-clause-err : goal.returns-in_err-text-clause-err
returns-in_err-text-clause-err g c =
    rw (
      unescaped c.args.byte c.if-byte-eq0.escape.now (search (rules, nat_tests))
          c.if-not-is_empty.ensures,
      byte_coded c.args.byte c.then-byte-lt32.either,
    ) (on_err _ (stops_here c.in_err-text.ensures.err))

pub returns-then-byte-lt32-clause-err : goal.returns-then-byte-lt32-clause-err
returns-then-byte-lt32-clause-err g c =
    rw (unescaped c.args.byte c.if-byte-eq0.escape.now (search (rules, nat_tests)) c.if-not-is_empty.ensures, byte_coded c.args.byte c.then-byte-lt32.either) (on_err_weaker _ (stops_next c.in_ok-text.ensures.ok) c.write_two_digits.ensures.err)

pub returns-clause-err : goal.returns-clause-err
returns-clause-err g c =
    rw (unescaped c.args.byte c.if-byte-eq0.escape.now (search (rules, nat_tests)) c.if-not-is_empty.ensures, byte_plain c.args.byte c.if-byte-lt32.false c.if-byte-gt126.false) (on_err_weaker _ stops_here (rw (c.encode_utf8.ensures.value, encode_ascii c.args.byte (omega (arith, c.if-byte-gt126.false))) at c.text-2.ensures.err))
