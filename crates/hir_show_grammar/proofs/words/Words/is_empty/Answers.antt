use Rattle.std.proofs.Common.{◌<◌, length, sym, ◌∙◌, arith}
use Rattle.std.proofs.lemmas.Bool.Decides.{nat_tests}
use Rattle.hir_show_grammar.proofs.Splits.{empty_past, words_past}
use Rattle.hir_show_grammar.proofs.words.Words.is_empty.Goals as goal

pub returns : goal.returns
returns g c =
    let start = c.self.inside.start in
    let text = c.self.inside.text.now in (
      λ past. let h : length text < start = grind (arith, nat_tests, past) in sym c.self.view_is ∙ words_past g.row.SEPARATOR start text h,
      λ none. let h : length text < start = empty_past g.row.SEPARATOR start text (c.self.view_is ∙ none) in grind (arith, nat_tests, h),
    )
