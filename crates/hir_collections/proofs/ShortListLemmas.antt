-- A write to one item in the place of a short list's items.
use Rattle.std.proofs.Common.{◌≡◌, ℕ, refl}
use Rattle.std.specs.Prelude.{slice_set}
use Rattle.hir_collections.specs.ShortList.{items_at, with_item}
use Rattle.hir_collections.specs.declared.short_list.Place.{Place}
use Rattle.hir_collections.specs.declared.short_list.Place.TheVariants.{Nothing, One, Two, Three, Outside}

pub items_with_item : {T : Type 0} (place : Place T) (at : ℕ) (item : T) → items_at (with_item place at item) ≡ slice_set (items_at place) at item
items_with_item Nothing at item = refl
items_with_item (One items) at item = refl
items_with_item (Two items) at item = refl
items_with_item (Three items) at item = refl
items_with_item (Outside items) at item = refl
