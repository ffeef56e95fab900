-- Defines how each call changes the visitor that tests ids.
use Rattle.std.specs.Prelude.{◌≡◌, ◌&&◌}
use Rattle.hir_validate.specs.Prelude.{Call}
use Rattle.hir_validate.specs.declared.range.InRange.{InRange}
use Rattle.hir_validate.specs.Sizes.{is_in_range}

-- the visitor still holds exactly if the id of the call is in range
abbrev pub Tests : InRange → Call → InRange → Type 0
Tests v c w = (w.sizes ≡ v.sizes) × (w.all_in_range ≡ (v.all_in_range && is_in_range v.sizes c))
