-- Defines the model of the place where the items of a short list are stored.
use Rattle.std.specs.Prelude.{ℕ, List, [], slice_set}
use Rattle.hir_collections.specs.declared.short_list.Place.{Place}
use Rattle.hir_collections.specs.declared.short_list.Place.TheVariants.{Nothing, One, Two, Three, Outside}

-- the items that a place holds
abbrev pub items_at : {T : Type 0} → Place T → List T
items_at Nothing = []
items_at (One items) = items
items_at (Two items) = items
items_at (Three items) = items
items_at (Outside items) = items.value

-- the place with this item at an index, and all others unchanged
abbrev pub with_item : {T : Type 0} → Place T → ℕ → T → Place T
with_item Nothing at item = Nothing
with_item (One items) at item = One (slice_set items at item)
with_item (Two items) at item = Two (slice_set items at item)
with_item (Three items) at item = Three (slice_set items at item)
with_item (Outside items) at item = Outside (record items { value = slice_set items.value at item })
