-- What structs, unions and variants of enums are printed as, with their fields.
use Rattle.std.specs.Prelude.{◌∷◌, ◌++◌}
use Rattle.hir_pretty.specs.Prelude.{List, [], map, codes, flat_map, ModPath, VariantId, PathKind, Plain, Super, Crate, Abs, DollarCrate, PrintEnv, Doc, MissingDoc, text, br, t, when, join, name_docs, found_name, supers, FieldData, FieldsShape, RawVisibility, VariantParts}
use Rattle.hir_pretty.specs.Bodies.{Parents, variant_name}
use Rattle.hir_base.specs.declared.defs.NamedDef.TheVariants as named
use Rattle.hir_base.specs.declared.defs.VariantId.TheVariants as variant
use Rattle.hir_store_core.specs.declared.missing.Missing.TheVariants as missing
use Rattle.hir_signature.specs.declared.signatures.FieldsShape.TheVariants as shape
use Rattle.hir_signature.specs.declared.signatures.RawVisibility.TheVariants as visibility

-- The path of a module: its kind and its names, separated by `::`
abbrev pub kind_word : PrintEnv → PathKind → List (List Doc)
kind_word s Plain = []
kind_word s (Super n) = supers n ∷ []
kind_word s Crate = text (codes "crate") ∷ []
kind_word s Abs = [] ∷ []
kind_word s (DollarCrate id) = text (codes "$crate") ∷ []

abbrev pub module_docs : PrintEnv → ModPath → List Doc
module_docs s path = join (text (codes "::")) (kind_word s path.kind ++ map (name_docs s) path.segments)

abbrev pub visibility_docs : PrintEnv → RawVisibility → List Doc
visibility_docs s (visibility.Module path) = text (codes "pub(in ") ++ module_docs s path
    ++ text (codes ") ")
visibility_docs s visibility.Public = text (codes "pub ")
visibility_docs s visibility.PubCrate = text (codes "pub(crate) ")
visibility_docs s visibility.PubSelf = text (codes "pub(self) ")

-- a field, on a line of its own
abbrev pub field_line : PrintEnv → FieldData → List Doc
field_line s field =
    visibility_docs s field.visibility ++ when field.is_unsafe (text (codes "unsafe "))
    ++ name_docs s field.name ++ text (codes ": ")
    ++ t field.type_ref ++ text (codes ",") ++ br

abbrev pub variant_head : PrintEnv → Parents → VariantId → List Doc
variant_head s parents (variant.StructId id) =
    text (codes "struct ") ++ found_name (codes "<missing>") (s.tables.name (named.StructId id))
variant_head s parents (variant.EnumVariantId id) = variant_name s parents id
variant_head s parents (variant.UnionId id) = text (codes "union ")
    ++ found_name (codes "<missing>") (s.tables.name (named.UnionId id))

-- what is before the fields, and after them
abbrev pub fields_begin : FieldsShape → List Doc
fields_begin shape.Record = text (codes " {") ++ br
fields_begin shape.Tuple = text (codes "(") ++ br
fields_begin shape.Unit = []

abbrev pub fields_end : FieldsShape → List Doc
fields_end shape.Record = text (codes "}") ++ br
fields_end shape.Tuple = text (codes ");") ++ br
fields_end shape.Unit = text (codes ";") ++ br

-- the fields of a variant
abbrev pub fields_docs : PrintEnv → FieldsShape → List FieldData → List Doc
fields_docs s shape fields = fields_begin shape ++ flat_map (field_line s) fields ++ fields_end shape

-- a struct, a union or a variant of an enum, with its fields
abbrev pub variant_docs : PrintEnv → Parents → VariantId → VariantParts → List Doc
variant_docs s parents owner v = variant_head s parents owner ++ fields_docs s v.shape v.fields

-- the documents of a variant whose fields are missing
abbrev pub without_fields : PrintEnv → Parents → VariantId → List Doc
without_fields s parents owner = variant_head s parents owner ++ (MissingDoc (missing.Fields owner) ∷ [])
