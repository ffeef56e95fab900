use Rattle.std.proofs.Common.{◌≡◌, [], ◌∷◌, ◌+◌, length, refl, sym, ap, ◌∙◌}
use Rattle.hir_show_grammar.proofs.Splits.{rest_further, rest_words, words_past}
use Rattle.hir_show_grammar.proofs.words.Words.skip.Goals as goal

pub returns-in_default-clause-no : goal.returns-in_default-clause-no
returns-in_default-clause-no g c = λ _.
    (refl, λ others e. let none : c.args.word.now ∷ others ≡ [] = sym e ∙ sym c.self.view_is ∙ words_past g.row.SEPARATOR c.self.inside.start c.self.inside.text.now (c.in_default.ensures {u = tt}) in cc)

pub returns-then-not-begins_with-clause-no : goal.returns-then-not-begins_with-clause-no
returns-then-not-begins_with-clause-no g c = λ _.
    (refl, λ others e. c.begins_with.ensures.no c.if-not-begins_with.true others (sym (rest_words g.row.SEPARATOR (c.in-Ok.ensures {u = tt})) ∙ c.self.view_is ∙ e))

pub returns-clause-yes : goal.returns-clause-yes
returns-clause-yes g c = λ _.
    sym c.self.view_is
    ∙ rest_words g.row.SEPARATOR (c.in-Ok.ensures {u = tt})
    ∙ c.begins_with.ensures.yes c.if-not-begins_with.false
    ∙ ap (λ ws. c.args.word.now ∷ ws) (rest_further g.row.SEPARATOR (length c.args.word.now + 1) (c.in-Ok.ensures {u = tt}))
