use Rattle.std.proofs.Common.{◌∷◌, ◌+◌, take, sym, ap, ◌∙◌}
use Rattle.std.proofs.lemmas.Result.{err_from_is_err_and}
use Rattle.hir_show_grammar.proofs.Splits.{rest_further, rest_words, words_past}
use Rattle.hir_show_grammar.proofs.words.Words.word.Goals as goal

pub returns-in_err-text : goal.returns-in_err-text
returns-in_err-text g c =
    let p = err_from_is_err_and c.from_residual.result c.from_residual.ensures.1 in
    rw p.1 (sym c.self.view_is ∙ words_past g.row.SEPARATOR c.self.inside.start c.self.inside.text.now (c.in_err-text.ensures {u = tt}))

pub returns : goal.returns
returns g c =
    sym c.self.view_is
    ∙ rest_words g.row.SEPARATOR (c.in_ok-text.ensures {u = tt})
    ∙ c.word_len-end.ensures.first
    ∙ ap (λ ws. take c.word_len-end.result c.in_ok-text.text.now ∷ ws) (rest_further g.row.SEPARATOR (c.word_len-end.result + 1) (c.in_ok-text.ensures {u = tt}))
