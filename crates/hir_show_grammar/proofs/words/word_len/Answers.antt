use Rattle.std.proofs.Common.{◌≡◌, false, get_or, arith}
use Rattle.std.proofs.lemmas.Bool.Decides.{nat_tests}
use Rattle.hir_show_grammar.specs.Readings.{is_byte}
use Rattle.hir_show_grammar.proofs.Prefixes.{prefix_ends, plain_more}
use Rattle.hir_show_grammar.proofs.words.word_len.Goals as goal

pub loop-end-preserved : goal.loop-end-preserved
loop-end-preserved c =
    let other : is_byte c.args.separator (get_or c.args.text.now c.loop-end.end 0) ≡ false = grind (arith, nat_tests) in
    record { within = omega arith; plain = plain_more c.args.separator c.args.text.now c.loop-end.end (omega arith) c.loop-end.invariant.plain other }

pub returns-else-text-end-clause-first : goal.returns-else-text-end-clause-first
returns-else-text-end-clause-first c =
    prefix_ends c.args.separator c.args.text.now c.loop-end.end c.loop-end.invariant.within c.loop-end.invariant.plain (λ _. grind (arith, nat_tests))

pub returns-after-loop-end-clause-first : goal.returns-after-loop-end-clause-first
returns-after-loop-end-clause-first c =
    prefix_ends c.args.separator c.args.text.now c.loop-end.end c.loop-end.invariant.within c.loop-end.invariant.plain (λ h. absurd (omega (arith, h, c.loop-end-test.false)))
