use Rattle.std.proofs.Common.{◌≡◌, ℕ, List, [], ◌∷◌, length, arith, rules}
use Rattle.std.specs.Str.{chars}
use Rattle.std.proofs.lemmas.Str.{chars-nil, chars_past_char, IsUtf8-past_char}
use Rattle.std.proofs.lemmas.Bool.Decides.{nat_tests}
use Rattle.hir_pretty_layout.specs.Literals.{escape_in_string}
use Rattle.hir_pretty_layout.proofs.PieceLemmas.{on_err, some_written, none_left, stops_in_rest}
use Rattle.hir_pretty_layout.proofs.literals.write_string_chars.Goals as goal

no_chars : (xs : List ℕ) → length xs ≡ 0 → chars xs ≡ []
no_chars [] e = chars-nil
no_chars (x ∷ xs) e = absurd (omega arith)

pub loop-c-preserved : goal.loop-c-preserved
loop-c-preserved g c =
    let text = c.loop-c.rest.rest.now in
    let rest = c.next.new.self.rest.now in
    let utf8 = c.loop-c.invariant.utf8 in
    let escape : c.if-c-eq39.escape.now ≡ escape_in_string c.in-Some.c = search (rules, nat_tests) in
    let is = c.in-Some.ensures.steps.0 in
    record {
      utf8 = IsUtf8-past_char text rest c.in-Some.c utf8 is;
      left = some_written _ (rw (chars_past_char text rest c.in-Some.c utf8 is) at c.loop-c.invariant.left) (rw escape at c.in_ok-write_escaped.ensures.ok);
    }

pub returns-in_err-write_escaped-clause-err : goal.returns-in_err-write_escaped-clause-err
returns-in_err-write_escaped-clause-err g c =
    let text = c.loop-c.rest.rest.now in
    let rest = c.next.new.self.rest.now in
    let escape : c.if-c-eq39.escape.now ≡ escape_in_string c.in-Some.c = search (rules, nat_tests) in
    let is = c.in-Some.ensures.steps.0 in
    on_err _ (stops_in_rest _ (rw (chars_past_char text rest c.in-Some.c c.loop-c.invariant.utf8 is) at c.loop-c.invariant.left)
    (rw escape at c.in_err-write_escaped.ensures.err))

pub returns-clause-ok : goal.returns-clause-ok
returns-clause-ok g c =
    let over = c.in_default.ensures.steps in
    none_left (rw (no_chars c.loop-c.rest.rest.now over.0.0) at c.loop-c.invariant.left)
