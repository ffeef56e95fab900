-- What a lookup in the tables of outside definitions gives to printing.
use Rattle.std.specs.Prelude.{ℕ, List, [], ◌∷◌, Option, Some, None, Result, Ok, Err, slice_get, option_map}
use Rattle.std.specs.FinMap as map
use Rattle.hir_base.specs.Keys.{named_code}
use Rattle.hir_base.specs.declared.{params.TypeOrConstParamId.TypeOrConstParamId, params.LifetimeParamId.LifetimeParamId}
use Rattle.hir_signature.specs.{Params.name_of, declared.param_data.LifetimeParamData.LifetimeParamData, Generics.Generics}
use Rattle.hir_store_core.specs.declared.missing.Missing.{Missing}
use Rattle.hir_store_core.specs.declared.missing.Missing.TheVariants as missing
use Rattle.hir_defs.specs.Lookups.{Tables, signature_entry}
use Rattle.hir_pretty_docs.specs.NameLookups.{NameLookups}

-- what was found, or that it is missing
abbrev pub found_or : {X : Type 0} → Missing → Option X → Result X Missing
found_or absent None = Err absent
found_or absent (Some x) = Ok x

-- the name of a parameter, where its parent has a signature
abbrev pub param_answer : TypeOrConstParamId → Option Generics → Result (Option (List ℕ)) Missing
param_answer id None = Err (missing.Signature id.parent)
param_answer id (Some params) = found_or (missing.TypeParam id)
    (option_map name_of (slice_get params.type_or_consts id.local_id))

abbrev pub lifetime_answer : LifetimeParamId → Option Generics → Result (List ℕ) Missing
lifetime_answer id None = Err (missing.Signature id.parent)
lifetime_answer id (Some params) = found_or (missing.LifetimeParam id)
    (option_map (λ (lifetime : LifetimeParamData). lifetime.name) (slice_get params.lifetimes id.local_id))

abbrev pub lookups_of : Tables → NameLookups
lookups_of t = record {
  name = λ def. found_or (missing.Name def) (map.get t.names (named_code def));
  crate_name = λ id. found_or (missing.Crate id) (map.get t.crate_names (id ∷ []));
  type_param = λ id. param_answer id (option_map (λ entry. entry.0) (signature_entry t id.parent));
  lifetime_param = λ id. lifetime_answer id (option_map (λ entry. entry.0) (signature_entry t id.parent));
}
