-- The first type, constant or lifetime of a name.
use Rattle.std.specs.Prelude.{◌≡◌, ◌∷◌, ◌++◌}
use Rattle.hir_signature.specs.Prelude.{ℕ, List, length, Option, Some, MatchOption, Name}
use Rattle.std.specs.List.{All}
use Rattle.hir_signature.specs.declared.param_data.LifetimeParamData.{LifetimeParamData}
use Rattle.hir_signature.specs.declared.any_param.TypeOrConstParamData.{TypeOrConstParamData}
use Rattle.hir_signature.specs.declared.any_param.TypeOrConstParamData.TheVariants.{TypeParamData, ConstParamData}

-- some members for which P doesn't hold, and after them, at the index `at`, one for which it does
pub record FirstAt {X : Type 0} (P : X → Type 0) (xs : List X) (at : ℕ) : Type 0 where
  pub before : List X
  pub member : X
  pub after : List X
  pub split : xs ≡ before ++ member ∷ after
  pub place : at ≡ length before
  pub none_before : All (λ x. P x → ⊥) before
  pub holds : P member

-- the index of the first member for which P holds, or none where it holds for no member
abbrev pub IsFirst : {X : Type 0} → (X → Type 0) → List X → Option ℕ → Type 0
IsFirst P xs r = MatchOption r (All (λ x. P x → ⊥) xs) (FirstAt P xs)

abbrev pub IsTypeNamed : Name → TypeOrConstParamData → Type 0
IsTypeNamed name (TypeParamData p) = p.name ≡ Some name
IsTypeNamed name (ConstParamData p) = ⊥

abbrev pub IsConstNamed : Name → TypeOrConstParamData → Type 0
IsConstNamed name (TypeParamData p) = ⊥
IsConstNamed name (ConstParamData p) = p.name ≡ name

abbrev pub IsLifetimeNamed : Name → LifetimeParamData → Type 0
IsLifetimeNamed name lifetime = lifetime.name ≡ name
