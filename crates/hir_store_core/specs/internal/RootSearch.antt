-- Beside RootSearch.antt: what only contracts within this crate cite.
use Rattle.std.specs.Prelude.{◌<◌, ◌≤◌}
use Rattle.hir_store_core.specs.Prelude.{ℕ, List, length, slice_index_or, Root, no_ends}
use Rattle.hir_store_core.specs.declared.root_search.EndOf.{EndOf}
use Rattle.hir_store_core.specs.declared.root_search.EndOf.TheVariants as ends
use Rattle.hir_store_core.specs.RootSearch.{end_of}

-- the end of a root in the list
abbrev pub end_at : EndOf → List Root → ℕ → ℕ
end_at kind roots i = end_of kind (slice_index_or roots i record { node = 0; ends = no_ends }).ends

-- no end is less than one before it
abbrev pub EndsRise : EndOf → List Root → Type 0
EndsRise kind roots = (i j : ℕ) → i ≤ j → j < length roots → end_at kind roots i ≤ end_at kind roots j
