-- The model of generic parameters, as lists; the first of a name, and the index of a lifetime.
use Rattle.std.specs.Prelude.{◌∷◌}
use Rattle.hir_signature.specs.Prelude.{ℕ, nat_eq, List, [], length, take, slice_get, Bool, false, cond, Option, Some, None, filter, enumerate_from, position, option_map, pointwise, Name, GenericDefId, TypeOrConstParamId, LifetimeParamId}
use Rattle.hir_signature.specs.Params.{is_bound, is_trait_self}
use Rattle.hir_signature.specs.declared.param_data.LifetimeParamData.{LifetimeParamData}
use Rattle.hir_signature.specs.declared.param_data.LifetimeBoundType.{LifetimeBoundType}
use Rattle.hir_signature.specs.declared.param_data.LifetimeBoundType.TheVariants.{LateBound}
use Rattle.hir_signature.specs.declared.any_param.TypeOrConstParamData.{TypeOrConstParamData}
use Rattle.hir_signature.specs.declared.any_param.TypeOrConstParamData.TheVariants.{TypeParamData, ConstParamData}
use Rattle.hir_signature.specs.declared.predicate.WherePredicate.{WherePredicate}

-- the parameters that are types or constants, those that are lifetimes, and the predicates on them
pub record Generics : Type 0 where
  pub type_or_consts : List TypeOrConstParamData
  pub lifetimes : List LifetimeParamData
  pub predicates : List WherePredicate

-- the model of these lists
abbrev pub generics_of : List TypeOrConstParamData → List LifetimeParamData → List WherePredicate → Generics
generics_of type_or_consts lifetimes predicates =
    record { type_or_consts = type_or_consts; lifetimes = lifetimes; predicates = predicates }

abbrev pub empty : Generics
empty = record { type_or_consts = []; lifetimes = []; predicates = [] }

-- the number of lifetimes that are bound in this way
abbrev pub count_bound : LifetimeBoundType → List LifetimeParamData → ℕ
count_bound way lifetimes = length (filter (is_bound way) lifetimes)

-- the lifetimes that are bound in this way, each after its index among all
abbrev pub entries_bound : LifetimeBoundType → List LifetimeParamData → List (ℕ × LifetimeParamData)
entries_bound way lifetimes = filter (λ entry. is_bound way entry.1) (enumerate_from 0 lifetimes)

abbrev pub same_name : Name → Option Name → Bool
same_name name None = false
same_name name (Some own) = pointwise nat_eq own name

abbrev pub is_type_named : Name → TypeOrConstParamData → Bool
is_type_named name (TypeParamData p) = same_name name p.name
is_type_named name (ConstParamData p) = false

abbrev pub is_const_named : Name → TypeOrConstParamData → Bool
is_const_named name (TypeParamData p) = false
is_const_named name (ConstParamData p) = same_name name (Some p.name)

abbrev pub is_lifetime_named : Name → LifetimeParamData → Bool
is_lifetime_named name lifetime = same_name name (Some lifetime.name)

-- the parameter of this index, of this parent
abbrev pub of_parent : GenericDefId → ℕ → TypeOrConstParamId
of_parent parent at = record { parent = parent; local_id = at }

abbrev pub lifetime_of_parent : GenericDefId → ℕ → LifetimeParamId
lifetime_of_parent parent at = record { parent = parent; local_id = at }

-- the first type of this name, the first constant, the first lifetime: `position` is the index of the first
-- member that passes
abbrev pub first_type : Name → GenericDefId → List TypeOrConstParamData → Option TypeOrConstParamId
first_type name parent params = option_map (of_parent parent) (position (is_type_named name) params)

abbrev pub first_const : Name → GenericDefId → List TypeOrConstParamData → Option TypeOrConstParamId
first_const name parent params = option_map (of_parent parent) (position (is_const_named name) params)

abbrev pub first_lifetime : Name → GenericDefId → List LifetimeParamData → Option LifetimeParamId
first_lifetime name parent lifetimes =
    option_map (lifetime_of_parent parent) (position (is_lifetime_named name) lifetimes)

-- parameter 0, where it is the Self of a trait
abbrev pub self_of_trait : List TypeOrConstParamData → Option ℕ
self_of_trait [] = None
self_of_trait (param ∷ params) = cond (is_trait_self param) (Some 0) None

-- the number of earlier lifetimes that are bound as this one is, and whether it is late bound
abbrev pub index_of : List LifetimeParamData → ℕ → LifetimeParamData → ℕ × Bool
index_of lifetimes id lifetime =
    (count_bound lifetime.bound_type (take id lifetimes), is_bound LateBound lifetime)

abbrev pub lifetime_index : List LifetimeParamData → ℕ → Option (ℕ × Bool)
lifetime_index lifetimes id = option_map (index_of lifetimes id) (slice_get lifetimes id)
