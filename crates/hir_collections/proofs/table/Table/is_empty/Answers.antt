use Rattle.std.specs.Bool.{one_answer}
use Rattle.std.proofs.Common.{sym, ◌∙◌}
use Rattle.hir_collections.proofs.TableLemmas.{empty_by_len, none_left, none_there}
use Rattle.hir_collections.proofs.table.Table.is_empty.Goals as goal

pub returns-clause-none : goal.returns-clause-none
returns-clause-none g c =
    let code = g.K.HasCode.code in
    let tells = g.met.K.HasCode.code_tells in
    let entries = c.self.inside.entries.entries in (
      λ h. sym c.self.view_is ∙ none_left code g.K.PartialEq.eq tells entries (c.is_empty.ensures.0 h),
      λ e. c.is_empty.ensures.1 (none_there code g.K.PartialEq.eq tells entries (c.self.view_is ∙ e)),
    )

pub returns-clause-len : goal.returns-clause-len
returns-clause-len g c = one_answer _ _ (returns-clause-none g c) (empty_by_len c.args.self.now)
