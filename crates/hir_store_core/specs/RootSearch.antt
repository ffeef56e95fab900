-- Root search: the first root whose end exceeds an id, and how many ends are read until it is found.
use Rattle.std.specs.Prelude.{◌<◌, ◌≤◌, ◌^◌}
use Rattle.hir_store_core.specs.Prelude.{ℕ, Bool, nat_lt, List, Option, option_map, ExprId, PatId, BindingId, Ends, Root}
use Rattle.std.specs.List.{find}
use Rattle.hir_store_core.specs.declared.root_search.EndOf.{EndOf}
use Rattle.hir_store_core.specs.declared.root_search.EndOf.TheVariants as ends

-- the end of a kind: the number of items of this kind when the root was listed
abbrev pub end_of : EndOf → Ends → ℕ
end_of ends.Exprs e = e.exprs
end_of ends.Pats e = e.pats
end_of ends.Bindings e = e.bindings

-- the end of this kind exceeds the id
abbrev pub exceeds : EndOf → ℕ → Root → Bool
exceeds kind id root = nat_lt id (end_of kind root.ends)

-- the first root in the list whose end of this kind exceeds the id
abbrev pub root_for : EndOf → List Root → ℕ → Option ExprId
root_for kind roots id = option_map (λ root. root.node) (find (exceeds kind id) roots)

abbrev pub root_for_expr : List Root → ExprId → Option ExprId
root_for_expr = root_for ends.Exprs

abbrev pub root_for_pat : List Root → PatId → Option ExprId
root_for_pat = root_for ends.Pats

abbrev pub root_for_binding : List Root → BindingId → Option ExprId
root_for_binding = root_for ends.Bindings

-- a number of steps is at most the number of binary digits of a number: it is at most k for each k digits
-- that suffice to write it
abbrev pub AtMostDigitsOf : ℕ → ℕ → Type 0
AtMostDigitsOf n steps = (k : ℕ) → n < 2 ^ k → steps ≤ k
