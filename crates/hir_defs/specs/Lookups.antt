-- The entries of the tables for a definition that may have generic parameters, for one that may have a body,
-- and for the owner of a store.
use Rattle.std.specs.Prelude.{ℕ, [], ◌∷◌, Option}
use Rattle.std.specs.Option.{option_map}
use Rattle.std.specs.FinMap as map
use Rattle.hir_base.specs.Keys.{body_code, fields_code}
use Rattle.hir_collections.specs.Table.{by_code}
use Rattle.hir_base.specs.declared.defs.AdtId.{AdtId}
use Rattle.hir_base.specs.declared.defs.AdtId.TheVariants as adt
use Rattle.hir_base.specs.declared.defs.GenericDefId.{GenericDefId}
use Rattle.hir_base.specs.declared.defs.GenericDefId.TheVariants as generic
use Rattle.hir_base.specs.declared.defs.DefWithBodyId.{DefWithBodyId}
use Rattle.hir_base.specs.declared.defs.ExpressionStoreOwnerId.{ExpressionStoreOwnerId}
use Rattle.hir_base.specs.declared.defs.ExpressionStoreOwnerId.TheVariants as owner
use Rattle.hir_source_map.specs.declared.source_map.ExpressionStoreSourceMap.{ExpressionStoreSourceMap}
use Rattle.hir_store_core.specs.Owners.{StoreAndSources}
use Rattle.hir_body.specs.Bodies.{BodyContents}
use Rattle.hir_signature.specs.Generics.{empty}
use Rattle.hir_signature.specs.Lookups.{SignatureAndSources}
use Rattle.hir_body.specs.Lookups.{BodyAndSources}
use Rattle.hir_body.specs.declared.body_source_map.BodySourceMap.{BodySourceMap}
use Rattle.hir_signature.specs.declared.signatures.FunctionParts.{FunctionParts}
use Rattle.hir_signature.specs.declared.signatures.StructParts.{StructParts}
use Rattle.hir_signature.specs.declared.signatures.PlainParts.{PlainParts}
use Rattle.hir_signature.specs.declared.signatures.VariantParts.{VariantParts}
use Rattle.hir_defs.specs.Tables.{plain_code}
use Rattle.hir_defs.specs.declared.plain_def.PlainDef.{PlainDef}
use Rattle.hir_defs.specs.declared.plain_def.PlainDef.TheVariants as plain
use Rattle.hir_defs.specs.declared.tables.TablesOf.{TablesOf}

abbrev pub Tables : Type 0
Tables =
    TablesOf
    FunctionParts StructParts PlainParts VariantParts BodyContents ExpressionStoreSourceMap BodySourceMap

-- the result of a lookup, from the signature of a function, of a struct and of another definition
abbrev pub function_entry : FunctionParts × ExpressionStoreSourceMap → SignatureAndSources
function_entry e = (e.0.generic_params, e.0.store, e.1)

abbrev pub struct_entry : StructParts × ExpressionStoreSourceMap → SignatureAndSources
struct_entry e = (e.0.generic_params, e.0.store, e.1)

abbrev pub plain_entry : PlainParts × ExpressionStoreSourceMap → SignatureAndSources
plain_entry e = (e.0.generic_params, e.0.store, e.1)

-- the result of a lookup of a constant or a static, which has no parameters
abbrev pub value_entry : PlainParts × ExpressionStoreSourceMap → SignatureAndSources
value_entry e = (empty, e.0.store, e.1)

abbrev pub of_adt : map.FinMap by_code (StructParts × ExpressionStoreSourceMap)
    → map.FinMap by_code (PlainParts × ExpressionStoreSourceMap) → AdtId → Option SignatureAndSources
of_adt structs plains (adt.EnumId id) = option_map plain_entry (map.get plains (plain_code (plain.Enum id)))
of_adt structs plains (adt.StructId id) = option_map struct_entry (map.get structs (id ∷ []))
of_adt structs plains (adt.UnionId id) = option_map plain_entry (map.get plains (plain_code (plain.Union id)))

-- the result of a lookup of a definition's signature
abbrev pub signature_entry : Tables → GenericDefId → Option SignatureAndSources
signature_entry t (generic.AdtId id) = of_adt t.structs t.plains id
signature_entry t (generic.ConstId id) = option_map value_entry
    (map.get t.plains (plain_code (plain.Const id)))
signature_entry t (generic.FunctionId id) = option_map function_entry (map.get t.functions (id ∷ []))
signature_entry t (generic.ImplId id) = option_map plain_entry (map.get t.plains (plain_code (plain.Impl id)))
signature_entry t (generic.StaticId id) = option_map value_entry
    (map.get t.plains (plain_code (plain.Static id)))
signature_entry t (generic.TraitId id) = option_map plain_entry
    (map.get t.plains (plain_code (plain.Trait id)))
signature_entry t (generic.TypeAliasId id) =
    option_map plain_entry (map.get t.plains (plain_code (plain.TypeAlias id)))

-- the body of a definition, and where it comes from
abbrev pub body_entry : Tables → DefWithBodyId → Option BodyAndSources
body_entry t def = map.get t.bodies (body_code def)

abbrev pub without_params : SignatureAndSources → StoreAndSources
without_params s = (s.1, s.2)

-- the store of an owner, and where it comes from
abbrev pub owner_entry : Tables → ExpressionStoreOwnerId → Option StoreAndSources
owner_entry t (owner.Signature def) = option_map without_params (signature_entry t def)
owner_entry t (owner.Body def) = option_map (λ e. (e.0.store, e.1.store)) (body_entry t def)
owner_entry t (owner.VariantFields variant) =
    option_map (λ e. (e.0.store, e.1)) (map.get t.fields (fields_code variant))
