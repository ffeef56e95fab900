use Rattle.std.proofs.Common.{◌∙◌}
use Rattle.hir_collections.proofs.TableLemmas.{table_of-clone}
use Rattle.hir_collections.proofs.table.TableClone.clone.Goals as goal

pub returns : goal.returns
returns g c = record {
  cases =
      table_of-clone g.K.HasCode.code g.K.Clone.is_clone g.V.Clone.is_clone g.met.K.TryClone.clone_is_same g.met.V.TryClone.clone_is_same
      c.self.inside.entries.entries c.in_ok-clone.field-0.entries c.in_ok-clone.ensures.cases
      ∙ c.self.view_is;
}
