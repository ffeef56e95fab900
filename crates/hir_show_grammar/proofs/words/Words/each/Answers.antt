use Rattle.std.proofs.Common.{◌≡◌, ◌++◌, ℕ, List, [], ◌∷◌, None, Some, refl, sym, ap, ◌∙◌}
use Rattle.std.specs.Option.{option_map}
use Rattle.std.proofs.lemmas.Result.{err_from_is_err_and}
use Rattle.hir_show_grammar.specs.Readings.{all_of, first_word}
use Rattle.hir_show_grammar.proofs.Keeping.{all_alone, all_read, all_of_itself, none_read, read_more, some_left}
use Rattle.hir_show_grammar.proofs.words.Words.each.Goals as goal

pub loop-self-init : goal.loop-self-init
loop-self-init g c = ([], all_of_itself g.T.Word.meaning c.args.self.now, c.with_capacity-kept.ensures.ok)

pub returns-in_err-item : goal.returns-in_err-item
returns-in_err-item g c =
    let p = err_from_is_err_and c.from_residual-in_err-item.result c.from_residual-in_err-item.ensures.1 in
    let read = c.loop-self.invariant in
    let some = some_left _ c.loop-self.self c.is_empty.ensures c.loop-self-test.true in
    let bad = ap (first_word g.T.Word.meaning) (c.in_ok-word.ensures {u = tt}) ∙ ap (option_map {U = g.row.T.Denot × List (List ℕ)} (λ x. (x, c.word.new.self))) (c.in_err-item.ensures {u = tt}) in
    let none : all_of g.T.Word.meaning c.args.self.now ≡ None = none_read g.T.Word.meaning c.args.self.now read.0 c.loop-self.self read.1 some bad in
    rw (p.1, p.2) (λ _. all_alone g.T.Word.meaning c.args.self.now ∙ none, λ _. refl)

pub loop-self-preserved : goal.loop-self-preserved
loop-self-preserved g c =
    let read = c.loop-self.invariant in
    let said = ap (first_word g.T.Word.meaning) (c.in_ok-word.ensures {u = tt}) ∙ ap (option_map {U = g.row.T.Denot × List (List ℕ)} (λ x. (x, c.word.new.self))) (c.in_ok-item.ensures {u = tt}) in (
      read.0 ++ c.in_ok-item.item ∷ [],
      read_more g.T.Word.meaning c.args.self.now read.0 c.loop-self.self c.word.new.self c.in_ok-item.item read.1 said,
      c.and_item-kept.ensures read.0 read.2,
    )

pub returns-in_err-kept : goal.returns-in_err-kept
returns-in_err-kept g c =
    let p = err_from_is_err_and c.from_residual-in_err-kept.result c.from_residual-in_err-kept.ensures.1 in
    let read = c.loop-self.invariant in
    let none : c.loop-self.self ≡ [] = c.is_empty.ensures.0 c.loop-self-test.false in
    let said = all_alone g.T.Word.meaning c.args.self.now ∙ all_read g.T.Word.meaning c.args.self.now read.0 c.loop-self.self read.1 none in
    rw (p.1, p.2) (λ bad. cc, λ nothing. cc)

pub returns : goal.returns
returns g c =
    let read = c.loop-self.invariant in
    let none : c.loop-self.self ≡ [] = c.is_empty.ensures.0 c.loop-self-test.false in
    ap (option_map {U = List g.row.T.Denot × List (List ℕ)} (λ xs. (xs, []))) (all_read g.T.Word.meaning c.args.self.now read.0 c.loop-self.self read.1 none)
    ∙ ap (λ (xs : List g.row.T.Denot). Some (xs, [])) (sym (rw c.in_ok-kept.was at read.2))
