-- Models a `HashMap` as a finite map, by a list of numbers for each key.
use Rattle.std.specs.Prelude.{◌≡◌, ℕ, List, map as each}
use Rattle.std.specs.Bool.{Decides}
use Rattle.std.specs.declared.cmp.Ordering.{Ordering}
use Rattle.std.specs.Ordering.{nat_cmp, eq_by_cmp}
use Rattle.std.specs.Cmp.Lexicographic.{slice_cmp, nat_list_cmp_total}
use Rattle.std.specs.FinMap as map
use Rattle.hir_collections.specs.Maps.{same_key}

-- the order of the codes
abbrev pub by_code : List ℕ → List ℕ → Ordering
by_code = slice_cmp nat_cmp

-- only equal codes compare as equal
pub by_code-IsAntisymmetric : map.IsAntisymmetric by_code
by_code-IsAntisymmetric = map.slice_cmp-IsAntisymmetric map.nat_cmp-IsAntisymmetric

pub by_code_decides : (c d : List ℕ) → Decides (eq_by_cmp by_code c d) (c ≡ d)
by_code_decides = same_key nat_list_cmp_total by_code-IsAntisymmetric

-- the entries, with the code of each key in place of the key
abbrev pub by_codes : {K V : Type 0} → (K → List ℕ) → List (K × V) → List (List ℕ × V)
by_codes code es = each (λ e. (code e.0, e.1)) es

-- the map of these entries
abbrev pub table_of : {K V : Type 0} → (K → List ℕ) → List (K × V) → map.FinMap by_code V
table_of code es = map.from_entries (by_codes code es)
