use Rattle.std.proofs.Common.{◌≡◌, ◌≢◌, ◌+◌, ◌*◌, ◌-◌, ◌<◌, ◌^◌, true, false, Some, length, take, get_or, sym, ap, ◌∙◌, arith, length-take, inl, inr}
use Rattle.std.proofs.lemmas.Bool.{cases_Bool}
use Rattle.std.proofs.lemmas.Bool.Decides.{nat_tests}
use Rattle.std.proofs.lemmas.Grind.{common_steps}
use Rattle.hir_show_grammar.specs.Numerals.{has_needless_zero, if_below, is_digit, number_of, value}
use Rattle.hir_show_grammar.specs.Readings.{is_byte}
use Rattle.hir_show_grammar.proofs.Digits.{digit_more, if_below-below, number_is, value-next}
use Rattle.hir_show_grammar.proofs.Prefixes.{eleven_digits, prefix_ends, prefix_number, large_prefix, needless_prefix, no_digit, no_prefix, plain_more}
use Rattle.hir_show_grammar.proofs.numerals.first_number.Goals as goal
use Rattle.hir_show_grammar.proofs.numerals.first_number.Goals.{then-loop-end-test+else-is_ascii_digit, then-loop-end-test+then-is_ascii_digit+else-text-end, else-loop-end-test, then-end-eq0-via-then-end-eq0, then-end-eq0-via-else-end-eq0+then-has_needless_zero, then-end-eq0-via-else-end-eq0+else-has_needless_zero+then-value-from, else-end-text-via-else-end-text, else-end-text-via-then-end-text+else-text-end-2}

pub loop-end-preserved : goal.loop-end-preserved
loop-end-preserved c =
    let text = c.args.text.now in
    let i = c.loop-end.end in
    let h : i < length text = omega arith in
    let other : is_byte c.args.separator (get_or text i 0) ≡ false = grind (arith, nat_tests) in
    let digit : is_digit (get_or text i 0) ≡ true = grind (arith, common_steps) in
    let next : value (take (i + 1) text) ≡ 10 * value (take i text) + (get_or text i 0 - 48) = value-next text i h in
    record {
      within = omega arith;
      few = omega arith;
      plain = plain_more c.args.separator text i h c.loop-end.invariant.plain other;
      all = grind (arith, common_steps);
      value_is = omega (arith, next, c.loop-end.invariant.value_is, c.from.ensures);
      small = omega (arith, digit_more i c.loop-end.value (get_or text i 0) c.loop-end.invariant.small digit, c.from.ensures);
    }

pub returns-then-end-eq0-clause-number : goal.returns-then-end-eq0-clause-number
returns-then-end-eq0-clause-number c =
    let text = c.args.text.now in
    let i = c.loop-end.end in
    let plain = c.loop-end.invariant.plain in
    let none : i ≡ 0 → length (take i text) ≡ 0 = λ e. omega (arith, e, length-take i text) in
    elim c.then-end-eq0.branch [
      | then-end-eq0-via-then-end-eq0 w ↦ elim c.loop-end-test.branch [
        | then-loop-end-test+else-is_ascii_digit v ↦ elim (cases_Bool (is_byte c.args.separator (get_or text i 0))) [
          | inl met ↦ no_prefix _ (take i text) _ (prefix_ends c.args.separator text i c.loop-end.invariant.within plain (λ h. met)) (none w.if-end-eq0.true)
          | inr other ↦ no_digit c.args.separator text i (omega (arith, v.loop-end-test.true)) plain other (sym v.is_ascii_digit.ensures.value ∙ v.if-is_ascii_digit.false)
        ]
        | then-loop-end-test+then-is_ascii_digit+else-text-end v ↦ no_prefix _ (take i text) _ (prefix_ends c.args.separator text i c.loop-end.invariant.within plain (λ h. grind (arith, nat_tests))) (none w.if-end-eq0.true)
        | else-loop-end-test v ↦ no_prefix _ (take i text) _ (prefix_ends c.args.separator text i c.loop-end.invariant.within plain (λ h. absurd (omega (arith, h, v.loop-end-test.false, w.if-end-eq0.true)))) (none w.if-end-eq0.true)
      ]
      | then-end-eq0-via-else-end-eq0+then-has_needless_zero w ↦ needless_prefix c.args.separator text i plain (sym w.has_needless_zero.ensures ∙ w.if-has_needless_zero.true)
      | then-end-eq0-via-else-end-eq0+else-has_needless_zero+then-value-from w ↦ large_prefix c.args.separator text i plain (omega (arith, c.loop-end.invariant.value_is, w.if-value-from.true, w.from-else-has_needless_zero.ensures))
    ]

pub returns-then-text-end-2-clause-number : goal.returns-then-text-end-2-clause-number
returns-then-text-end-2-clause-number c =
    let text = c.args.text.now in
    let i = c.loop-end.end in
    let h : i < length text = omega (arith, c.if-end-text.true) in
    let other : is_byte c.args.separator (get_or text i 0) ≡ false = grind (arith, nat_tests) in
    let needed : has_needless_zero (take i text) ≡ false = sym c.has_needless_zero.ensures ∙ c.if-has_needless_zero.false in
    elim c.loop-end-test.branch [
      | then-loop-end-test+else-is_ascii_digit v ↦ no_digit c.args.separator text i h c.loop-end.invariant.plain other (sym v.is_ascii_digit.ensures.value ∙ v.if-is_ascii_digit.false)
      | then-loop-end-test+then-is_ascii_digit+else-text-end v ↦ absurd (grind (arith, nat_tests))
      | else-loop-end-test v ↦
          let ten : i ≡ 10 = omega (arith, h, v.loop-end-test.false, c.loop-end.invariant.few) in
          eleven_digits c.args.separator text (omega (arith, h, ten)) (rw ten at c.loop-end.invariant.plain) (rw ten at c.loop-end.invariant.all) (rw ten at needed) (rw ten at other)
    ]

pub returns-clause-number : goal.returns-clause-number
returns-clause-number c =
    let text = c.args.text.now in
    let i = c.loop-end.end in
    let some : length (take i text) ≢ 0 = λ none. c.if-end-eq0.false (omega (arith, none, c.loop-end.invariant.within, length-take i text)) in
    let plain : has_needless_zero (take i text) ≡ false = sym c.has_needless_zero.ensures ∙ c.if-has_needless_zero.false in
    let small : c.loop-end.value < 2 ^ 32 = omega arith in
    let is : number_of (take i text) ≡ Some c.loop-end.value =
    number_is (take i text) some plain c.loop-end.invariant.all ∙ ap (if_below (2 ^ 32)) (sym c.loop-end.invariant.value_is) ∙ if_below-below _ small in
    let stops : i < length text → is_byte c.args.separator (get_or text i 0) ≡ true =
    elim c.else-end-text.branch [
      | else-end-text-via-else-end-text v ↦ λ h. absurd (omega (arith, h, v.if-end-text.false))
      | else-end-text-via-then-end-text+else-text-end-2 v ↦ λ h. grind (arith, nat_tests)
    ] in
    prefix_number _ (take i text) _ c.loop-end.value (prefix_ends c.args.separator text i c.loop-end.invariant.within c.loop-end.invariant.plain stops) is
