-- Children that are added to the last row.
use Rattle.std.proofs.Common.{◌≡◌, ℕ, suc, List, [], ◌∷◌, ◌++◌, length, refl, ap}
use Rattle.std.proofs.lemmas.List.{append_assoc}
use Rattle.hir_forest.specs.Rows.{with_children}

-- children that are added in parts
pub with_children-more : (rows : List (List ℕ)) (some more : List ℕ) → with_children (with_children rows some) more ≡ with_children rows (some ++ more)
with_children-more [] some more = refl
with_children-more (row ∷ []) some more = ap (λ t. t ∷ []) (append_assoc row some more)
with_children-more (row ∷ next ∷ []) some more = ap (λ t. row ∷ t) (with_children-more (next ∷ []) some more)
with_children-more (row ∷ next ∷ last ∷ rows) some more = ap (λ t. row ∷ t) (with_children-more (next ∷ last ∷ rows) some more)

pub with_children-fresh : (rows : List (List ℕ)) (children : List ℕ) → with_children (rows ++ [] ∷ []) children ≡ rows ++ children ∷ []
with_children-fresh [] children = refl
with_children-fresh (row ∷ []) children = refl
with_children-fresh (row ∷ next ∷ rows) children = ap (λ t. row ∷ t) (with_children-fresh (next ∷ rows) children)

pub length-with_children : (rows : List (List ℕ)) (children : List ℕ) → length (with_children rows children) ≡ length rows
length-with_children [] children = refl
length-with_children (row ∷ []) children = refl
length-with_children (row ∷ next ∷ rows) children = ap suc (length-with_children (next ∷ rows) children)
