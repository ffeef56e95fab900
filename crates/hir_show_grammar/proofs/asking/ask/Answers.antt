use Rattle.std.proofs.Common.{◌≡◌, ℕ, List, length, sym, ap, ◌∙◌, arith}
use Rattle.std.proofs.lemmas.Bool.Decides.{nat_tests}
use Rattle.std.proofs.lemmas.Result.{err_from_is_err_and}
use Rattle.hir_show_grammar.specs.Line.{question}
use Rattle.hir_show_grammar.specs.Readings.{split_parts, whole}
use Rattle.hir_show_grammar.proofs.Tables.{asks_by, empty_line}
use Rattle.hir_show_grammar.proofs.WrittenLines.{asks_it}
use Rattle.hir_show_grammar.proofs.asking.ask.Goals as goal

pub returns-then-is_empty : goal.returns-then-is_empty
returns-then-is_empty c =
    let none : length c.args.text.now ≡ 0 = grind (arith, nat_tests) in
    record { asks = empty_line c.args.text.now none }

pub returns-in_err-question : goal.returns-in_err-question
returns-in_err-question c =
    let p = err_from_is_err_and c.from_residual.result c.from_residual.ensures.1 in
    let words : split_parts 32 c.args.text.now ≡ c.new-words.result = sym c.new-words.ensures in
    let some : length c.args.text.now ≡ 0 → ⊥ = λ none. grind (arith, nat_tests) in
    let by = asks_by c.args.text.now some in
    let asked = c.in_err-question.ensures {u = tt} in
    record {
      asks = rw (p.1, p.2) (
        by.0,
        (
          λ bad. by.1.1 (ap (λ (ws : List (List ℕ)). whole question ws) words ∙ asked.0 bad),
          λ no. asked.1 (ap (λ (ws : List (List ℕ)). whole question ws) (sym words) ∙ by.1.0 no),
        ),
      );
    }

pub returns : goal.returns
returns c =
    let words : split_parts 32 c.args.text.now ≡ c.new-words.result = sym c.new-words.ensures in
    record { asks = asks_it c.args.text.now c.in_ok-question.question (ap (λ (ws : List (List ℕ)). whole question ws) words ∙ c.in_ok-question.ensures {u = tt}) }
