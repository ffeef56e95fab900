-- Defines the parts of a generic parameter: its name, its default, the parameter of its kind, whether it is
-- the Self of a trait, and how it is bound.
use Rattle.hir_signature.specs.Prelude.{List, Bool, true, false, Option, Some, None, is_some, Name}
use Rattle.hir_signature.specs.declared.param_data.TypeParamData.{TypeParamData}
use Rattle.hir_signature.specs.declared.param_data.ConstParamData.{ConstParamData}
use Rattle.hir_signature.specs.declared.param_data.LifetimeParamData.{LifetimeParamData}
use Rattle.hir_signature.specs.declared.param_data.TypeParamProvenance.{TypeParamProvenance}
use Rattle.hir_signature.specs.declared.param_data.TypeParamProvenance.TheVariants.{TypeParamList, TraitSelf, ArgumentImplTrait}
use Rattle.hir_signature.specs.declared.param_data.LifetimeBoundType.{LifetimeBoundType}
use Rattle.hir_signature.specs.declared.param_data.LifetimeBoundType.TheVariants.{EarlyBound, LateBound}
use Rattle.hir_signature.specs.declared.any_param.TypeOrConstParamData.{TypeOrConstParamData}
use Rattle.hir_signature.specs.declared.any_param.TypeOrConstParamData.TheVariants as either
use Rattle.hir_signature.specs.declared.any_param.GenericParamData.{GenericParamData}
use Rattle.hir_signature.specs.declared.any_param.GenericParamData.TheVariants as any

abbrev pub name_of : TypeOrConstParamData → Option Name
name_of (either.TypeParamData p) = p.name
name_of (either.ConstParamData p) = Some p.name

abbrev pub has_default : TypeOrConstParamData → Bool
has_default (either.TypeParamData p) = is_some p.default
has_default (either.ConstParamData p) = is_some p.default

abbrev pub type_of : TypeOrConstParamData → Option TypeParamData
type_of (either.TypeParamData p) = Some p
type_of (either.ConstParamData p) = None

abbrev pub const_of : TypeOrConstParamData → Option ConstParamData
const_of (either.TypeParamData p) = None
const_of (either.ConstParamData p) = Some p

abbrev pub is_self : TypeParamProvenance → Bool
is_self TypeParamList = false
is_self TraitSelf = true
is_self ArgumentImplTrait = false

-- a constant is never the Self of a trait
abbrev pub is_trait_self : TypeOrConstParamData → Bool
is_trait_self (either.TypeParamData p) = is_self p.provenance
is_trait_self (either.ConstParamData p) = false

abbrev pub same_bound : LifetimeBoundType → LifetimeBoundType → Bool
same_bound EarlyBound EarlyBound = true
same_bound EarlyBound LateBound = false
same_bound LateBound EarlyBound = false
same_bound LateBound LateBound = true

-- whether the lifetime is bound in this way
abbrev pub is_bound : LifetimeBoundType → LifetimeParamData → Bool
is_bound way lifetime = same_bound way lifetime.bound_type

abbrev pub any_name_of : GenericParamData → Option Name
any_name_of (any.TypeParamData p) = p.name
any_name_of (any.ConstParamData p) = Some p.name
any_name_of (any.LifetimeParamData p) = Some p.name

abbrev pub any_type_of : GenericParamData → Option TypeParamData
any_type_of (any.TypeParamData p) = Some p
any_type_of (any.ConstParamData p) = None
any_type_of (any.LifetimeParamData p) = None

abbrev pub any_const_of : GenericParamData → Option ConstParamData
any_const_of (any.TypeParamData p) = None
any_const_of (any.ConstParamData p) = Some p
any_const_of (any.LifetimeParamData p) = None

abbrev pub any_lifetime_of : GenericParamData → Option LifetimeParamData
any_lifetime_of (any.TypeParamData p) = None
any_lifetime_of (any.ConstParamData p) = None
any_lifetime_of (any.LifetimeParamData p) = Some p
