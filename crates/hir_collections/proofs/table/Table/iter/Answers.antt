use Rattle.hir_collections.proofs.TableLemmas.{entries-table_of}
use Rattle.hir_collections.proofs.table.Table.iter.Goals as goal

pub returns : goal.returns
returns g c =
    let shown = entries-table_of g.K.HasCode.code g.K.PartialEq.eq g.met.K.HasCode.code_tells c.self.inside.entries.entries c.iter-entries.ensures.unique in
    rw (c.new.ensures, c.iter-entries.ensures.rest, ← c.self.view_is) shown
