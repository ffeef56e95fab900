use Rattle.std.proofs.Common.{◌≡◌, true, sym, ◌∙◌, ap, arith}
use Rattle.std.proofs.lemmas.Str.{IsUtf8-from_ascii}
use Rattle.std.proofs.lemmas.Grind.{common_steps}
use Rattle.hir_show_grammar.specs.Numerals.{int_of, is_numeral, without_minus}
use Rattle.hir_show_grammar.proofs.Integers.{IsAscii-int, int_parses}
use Rattle.hir_show_grammar.proofs.numerals.int.Goals as goal

pub returns-then-not-is_numeral : goal.returns-then-not-is_numeral
unfolding int_of
returns-then-not-is_numeral c = grind (arith, common_steps)

pub returns-in-Err : goal.returns-in-Err
returns-in-Err c =
    let text = c.args.text.now in
    let numeral : is_numeral (without_minus text) ≡ true = ap is_numeral (sym c.without_minus.ensures) ∙ sym c.is_numeral.ensures ∙ c.if-not-is_numeral.false in
    absurd (c.in-Err.ensures.cases.0 (IsUtf8-from_ascii text (IsAscii-int text numeral)))

pub returns-in-Ok : goal.returns-in-Ok
returns-in-Ok c =
    let text = c.args.text.now in
    let numeral : is_numeral (without_minus text) ≡ true = ap is_numeral (sym c.without_minus.ensures) ∙ sym c.is_numeral.ensures ∙ c.if-not-is_numeral.false in
    c.ok.ensures.value ∙ int_parses text c.parse.result (rw c.in-Ok.ensures.cases.0 at c.parse.ensures.value.0) numeral
