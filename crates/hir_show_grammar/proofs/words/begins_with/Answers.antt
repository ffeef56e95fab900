use Rattle.std.proofs.Common.{◌≡◌, true, false, length, take, get_or, arith}
use Rattle.std.proofs.lemmas.Bool.Decides.{nat_tests}
use Rattle.hir_show_grammar.specs.Readings.{is_byte}
use Rattle.hir_show_grammar.proofs.Prefixes.{prefix_is_word, prefix_ends, longer, otherwise}
use Rattle.hir_show_grammar.proofs.words.begins_with.Goals as goal

pub returns-then-not-starts_with-clause-no : goal.returns-then-not-starts_with-clause-no
returns-then-not-starts_with-clause-no c = λ _.
    otherwise c.args.separator c.args.text.now c.args.word.now c.starts_with.result c.starts_with.ensures.value c.if-not-starts_with.true

pub returns-then-end-text-clause-yes : goal.returns-then-end-text-clause-yes
returns-then-end-text-clause-yes c = λ _.
    let text = c.args.text.now in
    let word = c.args.word.now in
    let same : take (length word) text ≡ word = prefix_is_word text word c.starts_with.result c.starts_with.ensures.value c.if-not-starts_with.false in
    rw same at (prefix_ends c.args.separator text (length word) (omega arith) (rw same c.requires) (λ h. absurd (omega (arith, h))))

pub returns-clause-yes : goal.returns-clause-yes
returns-clause-yes c = λ met.
    let text = c.args.text.now in
    let word = c.args.word.now in
    let same : take (length word) text ≡ word = prefix_is_word text word c.starts_with.result c.starts_with.ensures.value c.if-not-starts_with.false in
    rw same at (prefix_ends c.args.separator text (length word) (omega arith) (rw same c.requires) (λ h. grind (arith, nat_tests, met)))

pub returns-clause-no : goal.returns-clause-no
returns-clause-no c = λ unmet.
    let text = c.args.text.now in
    let word = c.args.word.now in
    let same : take (length word) text ≡ word = prefix_is_word text word c.starts_with.result c.starts_with.ensures.value c.if-not-starts_with.false in
    let other : is_byte c.args.separator (get_or text (length word) 0) ≡ false = grind (arith, nat_tests, unmet) in
    longer c.args.separator text word (omega arith) (rw same c.requires) other
