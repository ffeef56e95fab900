-- Changes of one item of a list, and the uses whose paths are renamed.
use Rattle.std.proofs.Common.{◌≡◌, ◌≤◌, ℕ, zero, suc, List, [], ◌∷◌, Some, map, refl, sym, ap, ◌∙◌, length, fold, arith}
use Rattle.std.specs.List.{slice_get}
use Rattle.std.specs.Prelude.{slice_set}
use Rattle.hir_path.specs.declared.path.Path.{Path}
use Rattle.hir_node.specs.declared.{expr.Expr.Expr, pat.Pat.Pat}
use Rattle.hir_validate.specs.declared.node_arenas.Nodes.{Nodes}
use Rattle.hir_usages.specs.Renamed.{change_at, rename_path, renamed_expr, renamed_pat}
use Rattle.hir_usages.specs.declared.usage.Usage.{Usage}
use Rattle.hir_usages.specs.internal.RenamedUses.{rename_use}

module _ {X : Type 0} (f : X → X) where
  -- an item past the end changes nothing
  pub change_past : (xs : List X) (i : ℕ) → length xs ≤ i → change_at f xs i ≡ xs
  change_past [] i l = refl
  change_past (x ∷ xs) zero l = absurd (omega (arith, l))
  change_past (x ∷ xs) (suc i) l = ap (λ (ys : List X). x ∷ ys) (change_past xs i (omega (arith, l)))

  -- an item that stays
  pub change_same : (xs : List X) (i : ℕ) (x : X) → slice_get xs i ≡ Some x → x ≡ f x → change_at f xs i ≡ xs
  change_same [] i x is e = refl
  change_same (y ∷ xs) zero x is e = let same : y ≡ x = cc in ap (λ (z : X). z ∷ xs) (ap f same ∙ (sym e ∙ sym same))
  change_same (y ∷ xs) (suc i) x is e = ap (λ (ys : List X). y ∷ ys) (change_same xs i x is e)

  -- an item that is set
  pub change_set : (xs : List X) (i : ℕ) (x y : X) → slice_get xs i ≡ Some x → y ≡ f x → slice_set xs i y ≡ change_at f xs i
  change_set [] i x y is e = absurd cc
  change_set (z ∷ xs) zero x y is e = let same : z ≡ x = cc in ap (λ (w : X). w ∷ xs) (e ∙ ap f (sym same))
  change_set (z ∷ xs) (suc i) x y is e = ap (λ (ys : List X). z ∷ ys) (change_set xs i x y is e)

-- what isn't a path stays
pub stays_expr : (name : List ℕ) (x : Expr) → ((path : Path) → x ≡ Expr.Path path → ⊥) → x ≡ renamed_expr name x
stays_expr name (Expr.Path path) h = absurd (h path refl)
stays_expr name _ h = refl

pub stays_pat : (name : List ℕ) (x : Pat) → ((path : Path) → x ≡ Pat.Path path → ⊥) → x ≡ renamed_pat name x
stays_pat name (Pat.Path path) h = absurd (h path refl)
stays_pat name _ h = refl

-- the uses, one after the other, are their paths, one after the other
pub uses_are_paths : (name : List ℕ) (s : Nodes) (us : List Usage) → fold (rename_use name) s us
    ≡ fold (rename_path name) s (map (λ (v : Usage). v.path) us)
uses_are_paths name s [] = refl
uses_are_paths name s (v ∷ us) = uses_are_paths name (rename_path name s v.path) us

pub ruleset changing = (change_past, change_same, change_set, stays_expr, stays_pat)
