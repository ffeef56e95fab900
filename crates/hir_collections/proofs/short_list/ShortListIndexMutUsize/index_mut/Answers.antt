use Rattle.std.proofs.Common.{refl, ap, ◌∙◌, rules}
use Rattle.std.specs.Prelude.{slice_set}
use Rattle.hir_collections.proofs.ShortListLemmas.{items_with_item}
use Rattle.hir_collections.proofs.short_list.ShortListIndexMutUsize.index_mut.Goals as goal

pub returns : goal.returns
returns g c =
    let place = c.self.inside.place in (
      (refl, λ (w : g.row.T.Denot). items_with_item place c.args.at w ∙ ap (λ xs. slice_set xs c.args.at w) c.self.view_is),
      record { changes_one = tt; value = rw (← c.self.view_is) c.item_mut.ensures.value },
    )
