use Rattle.std.proofs.Common.{sym, ap, ◌∙◌}
use Rattle.std.specs.FinMap as map
use Rattle.std.proofs.lemmas.Result.{on_ok_weaker, IfOk-weaker}
use Rattle.hir_collections.proofs.TableLemmas.{get-table_of, table_of_insert}
use Rattle.hir_collections.proofs.table.Table.insert.Goals as goal

pub returns-clause-ok : goal.returns-clause-ok
returns-clause-ok g c =
    let code = g.K.HasCode.code in
    let insert = table_of_insert code g.K.PartialEq.eq g.met.K.HasCode.code_tells c.args.key c.args.value c.self.inside.entries.entries c.insert.new.self.entries in
    on_ok_weaker c.insert.result (λ updates. insert updates.0 ∙ ap (λ m. map.insert m (code c.args.key) c.args.value) c.self.view_is) c.insert.ensures.updates

pub returns-clause-old : goal.returns-clause-old
returns-clause-old g c =
    let code = g.K.HasCode.code in
    let get = get-table_of code g.K.PartialEq.eq g.met.K.HasCode.code_tells c.args.key c.self.inside.entries.entries in
    IfOk-weaker c.insert.result _ _ (λ old is. is ∙ sym get ∙ ap (λ m. map.get m (code c.args.key)) c.self.view_is) c.insert.ensures.old
