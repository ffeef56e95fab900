-- What ids leave of the visitor that finds the first that doesn't exist. Only private clauses cite it.
use Rattle.std.specs.Prelude.{◌≡◌, ◌∷◌}
use Rattle.hir_error.specs.Prelude.{List, [], option_or, Call}
use Rattle.hir_error.specs.declared.named_id.NamedId.{NamedId}
use Rattle.hir_error.specs.declared.missing_ids.FirstMissing.{FirstMissing}
use Rattle.hir_error.specs.NamedIds.{id_of_call, first_out_of_range}

-- after these ids the visitor has the id that it had found before, or else the first of these that doesn't
-- exist
abbrev pub FindsAmong : FirstMissing → List NamedId → FirstMissing → Type 0
FindsAmong v ids w = (w.sizes ≡ v.sizes) × (w.found ≡ option_or v.found (first_out_of_range v.sizes ids))

-- the step of one child call
abbrev pub Finds : FirstMissing → Call → FirstMissing → Type 0
Finds v c w = FindsAmong v (id_of_call c ∷ []) w
