-- The empty map has no entries, in any order.
use Rattle.std.proofs.Common.{◌≡◌, List, [], ◌∷◌, length, refl, sym, ◌∙◌, subst, arith}
use Rattle.std.specs.FinMap as map
use Rattle.std.specs.List.Sorted.{IsPermutation}
use Rattle.std.proofs.lemmas.List.Sorted.{IsPermutation-refl}
use Rattle.hir_collections.specs.Table.{by_code}

nothing : {A : Type 0} (es : List A) → length es ≡ 0 → es ≡ []
nothing [] e = refl
nothing (x ∷ es) e = absurd (omega arith)

pub no_entries : {V : Type 0} → IsPermutation [] (map.entries (map.empty {X = V} {R = by_code}))
no_entries {V} =
    let none : map.entries (map.empty {X = V} {R = by_code}) ≡ [] = nothing _ (sym (map.len-entries map.empty) ∙ map.len-empty by_code V) in
    subst (IsPermutation []) (sym none) (IsPermutation-refl [])
