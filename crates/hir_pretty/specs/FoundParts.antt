-- What the tables have that heads of definitions ask for: the enum of a variant, the fields of a variant,
-- signatures.
use Rattle.std.specs.Prelude.{◌∷◌}
use Rattle.hir_pretty.specs.Prelude.{[], Option, Result, option_map, EnumId, EnumVariantId, FunctionId, StructId, fields_code, VariantId, Missing, found_or, FunctionParts, StructParts, VariantParts, Tables}
use Rattle.std.specs.FinMap as map
use Rattle.hir_store_core.specs.declared.missing.Missing.TheVariants as missing

abbrev pub parents : Tables → EnumVariantId → Result EnumId Missing
parents t id = found_or (missing.Variant id) (map.get t.variant_parents (id ∷ []))

abbrev pub fields_found : Tables → VariantId → Option VariantParts
fields_found t owner = option_map (λ entry. entry.0) (map.get t.fields (fields_code owner))

abbrev pub function_found : Tables → FunctionId → Option FunctionParts
function_found t id = option_map (λ entry. entry.0) (map.get t.functions (id ∷ []))

abbrev pub struct_found : Tables → StructId → Option StructParts
struct_found t id = option_map (λ entry. entry.0) (map.get t.structs (id ∷ []))
