-- The text that `Debug` writes of a missing fact: its kind, and the definition's id.
use Rattle.std.specs.Prelude.{◌++◌}
use Rattle.hir_store_core.specs.Prelude.{List, ℕ, codes, id_text, generic_text, body_text, fields_text, named_text, type_or_const_param_text, lifetime_param_text}
use Rattle.hir_store_core.specs.declared.missing.Missing.{Missing}
use Rattle.hir_store_core.specs.declared.missing.Missing.TheVariants.{Name, Variant, Crate, Signature, Body, Fields, TypeParam, LifetimeParam, DefMap}

-- as `Signature(FunctionId(7))`
abbrev pub missing_text : Missing → List ℕ
missing_text (Name id) = codes "Name(" ++ named_text id ++ codes ")"
missing_text (Variant id) = codes "Variant(" ++ id_text (codes "EnumVariantId") id ++ codes ")"
missing_text (Crate id) = codes "Crate(" ++ id_text (codes "CrateId") id ++ codes ")"
missing_text (Signature id) = codes "Signature(" ++ generic_text id ++ codes ")"
missing_text (Body id) = codes "Body(" ++ body_text id ++ codes ")"
missing_text (Fields id) = codes "Fields(" ++ fields_text id ++ codes ")"
missing_text (TypeParam id) = codes "TypeParam(" ++ type_or_const_param_text (codes "TypeParamId") id
    ++ codes ")"
missing_text (LifetimeParam id) = codes "LifetimeParam(" ++ lifetime_param_text id ++ codes ")"
missing_text (DefMap id) = codes "DefMap(" ++ id_text (codes "BlockId") id ++ codes ")"
