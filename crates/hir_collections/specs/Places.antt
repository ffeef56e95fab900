-- Models numbered places, each with a value or without one, as a finite map.
use Rattle.std.specs.Prelude.{ℕ, ◌+◌, List, [], ◌∷◌, Bool, true, is_some, Option, Some, None}
use Rattle.std.specs.Ordering.{nat_cmp}
use Rattle.std.specs.FinMap as map

module _ {V : Type 0} where
  -- the places that have a value, numbered from n
  abbrev pub entries_from : ℕ → List (Option V) → List (ℕ × V)
  entries_from n [] = []
  entries_from n (None ∷ places) = entries_from (n + 1) places
  entries_from n (Some value ∷ places) = (n, value) ∷ entries_from (n + 1) places

  -- the map from the numbers of places to their values
  abbrev pub map_of : List (Option V) → map.FinMap nat_cmp V
  map_of places = map.from_sorted (entries_from 0 places)

  -- whether there is no place, or the last one has a value
  abbrev pub ends_full : List (Option V) → Bool
  ends_full [] = true
  ends_full (place ∷ []) = is_some place
  ends_full (place ∷ next ∷ places) = ends_full (next ∷ places)
