use Rattle.std.proofs.Common.{◌+◌, Some, sym, ap, ◌∙◌}
use Rattle.std.proofs.lemmas.Result.{err_from_is_err_and}
use Rattle.hir_show_grammar.specs.Words.{number}
use Rattle.hir_show_grammar.proofs.Splits.{rest_further, rest_words, words_past}
use Rattle.hir_show_grammar.proofs.words.Words.number.Goals as goal

pub returns-in_err-text : goal.returns-in_err-text
returns-in_err-text g c =
    let p = err_from_is_err_and c.from_residual.result c.from_residual.ensures.1 in
    rw p.1 (ap number (sym c.self.view_is ∙ words_past g.row.SEPARATOR c.self.inside.start c.self.inside.text.now (c.in_err-text.ensures {u = tt})))

pub returns-in_err-number : goal.returns-in_err-number
returns-in_err-number g c =
    let p = err_from_is_err_and c.from_residual-in_err-number.result c.from_residual-in_err-number.ensures.1 in
    rw p.1 (ap number (sym c.self.view_is ∙ rest_words g.row.SEPARATOR (c.in_ok-text.ensures {u = tt})) ∙ c.in_err-number.ensures.number)

pub returns : goal.returns
returns g c =
    ap number (sym c.self.view_is ∙ rest_words g.row.SEPARATOR (c.in_ok-text.ensures {u = tt}))
    ∙ c.in_ok-number.ensures.number
    ∙ ap (λ ws. Some (c.in_ok-number.number, ws)) (rest_further g.row.SEPARATOR (c.in_ok-number.end + 1) (c.in_ok-text.ensures {u = tt}))
