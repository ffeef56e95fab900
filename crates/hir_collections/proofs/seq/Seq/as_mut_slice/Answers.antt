use Rattle.std.proofs.Common.{List, refl, ap, ◌∙◌, length, rules}
use Rattle.std.specs.List.{refill}
use Rattle.hir_collections.proofs.seq.Seq.as_mut_slice.Goals as goal

pub returns : goal.returns
returns g c =
    let items = c.self.inside.items in (
      (refl, λ (w : List g.row.T.Denot). ap (λ n. refill n items.items w) items.ok.0 ∙ ap (λ xs. refill (length xs) xs w) c.self.view_is),
      record { changes_items = tt; value = search rules },
    )
