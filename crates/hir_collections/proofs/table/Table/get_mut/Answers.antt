use Rattle.std.proofs.Common.{refl, sym, ap, ◌∙◌}
use Rattle.std.specs.FinMap as map
use Rattle.hir_collections.specs.Table.{table_of}
use Rattle.hir_collections.proofs.TableLemmas.{get-table_of, table_of_insert, when_some}
use Rattle.hir_collections.proofs.table.Table.get_mut.Goals as goal

pub returns : goal.returns
returns g c =
    let code = g.K.HasCode.code in
    let tells = g.met.K.HasCode.code_tells in
    let entries = c.self.inside.entries.entries in (
      (
        refl,
        λ w. when_some (λ r. r.now) c.get_mut.result _ c.get_mut.ensures.value (λ there.
            table_of_insert code g.K.PartialEq.eq tells c.args.key.now w entries (c.get_mut.follows.lender w).entries ((c.get_mut.follows.holds w).3 there).0
            ∙ ap (λ m. map.insert m (code c.args.key.now) w) c.self.view_is),
        ap (λ m. table_of code m.entries) c.get_mut.follows.holds-at-none ∙ c.self.view_is,
      ),
      record {
        writes_back = tt;
        value = c.get_mut.ensures.value ∙ sym (get-table_of code g.K.PartialEq.eq tells c.args.key.now entries) ∙ ap (λ m. map.get m (code c.args.key.now)) c.self.view_is;
      },
    )
