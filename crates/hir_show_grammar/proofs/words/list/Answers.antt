use Rattle.std.proofs.Common.{◌≡◌, ◌++◌, ℕ, false, List, [], ◌∷◌, Some, None, refl, sym, ap, ◌∙◌}
use Rattle.std.specs.Prelude.{codes}
use Rattle.std.specs.Option.{option_map}
use Rattle.std.specs.Str.{bytes_eq}
use Rattle.std.proofs.lemmas.Result.{err_from_is_err_and}
use Rattle.hir_show_grammar.specs.Numerals.{number_of}
use Rattle.hir_show_grammar.specs.Readings.{all_of, comma, split_parts}
use Rattle.hir_show_grammar.specs.Words.{list_of}
use Rattle.hir_show_grammar.proofs.Keeping.{all_read, all_of_itself, list_otherwise, none_read, read_more, some_left}
use Rattle.hir_show_grammar.proofs.words.list.Goals as goal

pub loop-numbers-init : goal.loop-numbers-init
loop-numbers-init g c = (
  [],
  ap (λ (ws : List (List ℕ)). option_map {T = List ℕ} {U = List ℕ} (λ xs. [] ++ xs) (all_of number_of ws)) c.new-numbers.ensures ∙ all_of_itself number_of (split_parts comma c.args.word.now),
  c.new-kept.ensures,
)

pub returns-in_err-id : goal.returns-in_err-id
returns-in_err-id g c =
    let p = err_from_is_err_and c.from_residual.result c.from_residual.ensures.1 in
    let word = c.args.word.now in
    let read = c.loop-numbers.invariant in
    let other : bytes_eq c.args.word.now (codes "-") ≡ false = sym (c.if-eq.ensures {u = tt} ∙ ap (λ (w : List ℕ). bytes_eq c.args.word.now w) c.as_slice.ensures) in
    let none : list_of word ≡ None =
    list_otherwise word other
    ∙ none_read number_of (split_parts comma word) read.0 c.loop-numbers.numbers read.1 (some_left _ c.loop-numbers.numbers c.is_empty.ensures c.loop-numbers-test.true) (c.in_err-id.ensures {u = tt}) in
    rw (p.1, p.2) (λ _. none, λ _. refl)

pub loop-numbers-preserved : goal.loop-numbers-preserved
loop-numbers-preserved g c =
    let read = c.loop-numbers.invariant in (
      read.0 ++ c.in_ok-id.id ∷ [],
      read_more number_of (split_parts comma c.args.word.now) read.0 c.loop-numbers.numbers c.id.new.self c.in_ok-id.id read.1 (c.in_ok-id.ensures {u = tt}),
      c.and_id-room.ensures read.0 read.2,
    )

pub returns-in_err-room : goal.returns-in_err-room
returns-in_err-room g c =
    let p = err_from_is_err_and c.from_residual-in_err-room.result c.from_residual-in_err-room.ensures.1 in
    let word = c.args.word.now in
    let read = c.loop-numbers.invariant in
    let other : bytes_eq c.args.word.now (codes "-") ≡ false = sym (c.if-eq.ensures {u = tt} ∙ ap (λ (w : List ℕ). bytes_eq c.args.word.now w) c.as_slice.ensures) in
    let said : list_of word ≡ Some read.0 = list_otherwise word other ∙ all_read number_of (split_parts comma word) read.0 c.loop-numbers.numbers read.1 (c.is_empty.ensures.0 c.loop-numbers-test.false) in
    rw (p.1, p.2) (λ bad. cc, λ none. cc)

pub returns : goal.returns
returns g c =
    let word = c.args.word.now in
    let read = c.loop-numbers.invariant in
    let other : bytes_eq c.args.word.now (codes "-") ≡ false = sym (c.if-eq.ensures {u = tt} ∙ ap (λ (w : List ℕ). bytes_eq c.args.word.now w) c.as_slice.ensures) in
    let said : list_of word ≡ Some read.0 = list_otherwise word other ∙ all_read number_of (split_parts comma word) read.0 c.loop-numbers.numbers read.1 (c.is_empty.ensures.0 c.loop-numbers-test.false) in
    said ∙ ap Some (sym (rw c.in_ok-room.was at read.2))
