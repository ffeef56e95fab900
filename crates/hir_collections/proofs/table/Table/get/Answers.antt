use Rattle.std.proofs.Common.{ap, sym, ◌∙◌}
use Rattle.std.specs.FinMap as map
use Rattle.hir_collections.proofs.TableLemmas.{get-table_of}
use Rattle.hir_collections.proofs.table.Table.get.Goals as goal

pub returns : goal.returns
returns g c =
    c.get.ensures.value
    ∙ sym (get-table_of g.K.HasCode.code g.K.PartialEq.eq g.met.K.HasCode.code_tells c.args.key.now c.self.inside.entries.entries)
    ∙ ap (λ m. map.get m (g.K.HasCode.code c.args.key.now)) c.self.view_is
