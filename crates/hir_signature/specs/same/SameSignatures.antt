-- Proofs that `==` of signatures, of fields and of their parts decides whether they are the same, field by
-- field.
use Rattle.std.specs.Prelude.{◌≡◌, ℕ, List, Option, Bool, eqb}
use Rattle.std.specs.Bool.{Decides}
use Rattle.std.specs.Option.{option_eq}
use Rattle.std.specs.Cmp.{unsigned_Decides}
use Rattle.std.specs.Cmp.Lexicographic.{pointwise, pointwise_decides}
use Rattle.hir_collections.specs.Exact.{exact, options_decide, optional_numbers_decide}
use Rattle.hir_path.specs.same.Fields.{and_decides, both}
use Rattle.hir_path.specs.same.Leaves.{names_decide, mod_paths_decide}
use Rattle.hir_node.specs.same.Leaves.{abis_decide}
use Rattle.hir_node.specs.same.SameStructs.{flags_decide}
use Rattle.hir_store_core.specs.same.SameStores.{stores_decide}
use Rattle.hir_signature.specs.same.SameGenerics.{generics_decide}
use Rattle.hir_signature.specs.declared.signatures.FieldsShape.{FieldsShape}
use Rattle.hir_signature.specs.declared.signatures.RawVisibility.{RawVisibility}
use Rattle.hir_signature.specs.declared.signatures.FieldData.{FieldData}
use Rattle.hir_signature.specs.declared.signatures.FunctionParts.{FunctionParts}
use Rattle.hir_signature.specs.declared.signatures.StructParts.{StructParts}
use Rattle.hir_signature.specs.declared.signatures.VariantParts.{VariantParts}
use Rattle.hir_signature.specs.declared.signatures.PlainParts.{PlainParts}
use Rattle.hir_signature.specs.contracts.signatures.FieldsShapePartialEq.TheImpl as shapes
use Rattle.hir_signature.specs.contracts.signatures.RawVisibilityPartialEq.TheImpl as visibilities
use Rattle.hir_signature.specs.contracts.signatures.FieldDataPartialEq.TheImpl as fields
use Rattle.hir_signature.specs.contracts.signatures.FunctionPartsPartialEq.TheImpl as functions
use Rattle.hir_signature.specs.contracts.signatures.StructPartsPartialEq.TheImpl as structs
use Rattle.hir_signature.specs.contracts.signatures.VariantPartsPartialEq.TheImpl as variants
use Rattle.hir_signature.specs.contracts.signatures.PlainPartsPartialEq.TheImpl as plains

pub shapes_decide : (x y : FieldsShape) → Decides (shapes.ghosts.eq x y) (x ≡ y)
shapes_decide x y = search exact

pub visibilities_decide : (x y : RawVisibility) → Decides (visibilities.ghosts.eq x y) (x ≡ y)
visibilities_decide x y = search (exact, mod_paths_decide)

pub fields_decide : (x y : FieldData) → Decides (fields.ghosts.eq x y) (x ≡ y)
fields_decide x y =
    and_decides _ _ (names_decide x.name y.name)
    (both _ _ (unsigned_Decides x.type_ref y.type_ref)
    (both _ _ (visibilities_decide x.visibility y.visibility)
    (both _ _ (flags_decide x.is_unsafe y.is_unsafe)
    (optional_numbers_decide x.default_value y.default_value))))
    (λ e r i. record {
      name = e i;
      type_ref = r.0 i;
      visibility = r.1.0 i;
      is_unsafe = r.1.1.0 i;
      default_value = r.1.1.1 i;
    })
    (λ e i. (e i).name)
    (λ e. (λ i. (e i).type_ref, (λ i. (e i).visibility, (λ i. (e i).is_unsafe, λ i. (e i).default_value))))

indices_decide : (x y : Option (List ℕ)) → Decides (option_eq (pointwise eqb) x y) (x ≡ y)
indices_decide = options_decide (pointwise_decides unsigned_Decides)

pub functions_decide : (x y : FunctionParts) → Decides (functions.ghosts.eq x y) (x ≡ y)
functions_decide x y =
    and_decides _ _ (names_decide x.name y.name)
    (both _ _ (generics_decide x.generic_params y.generic_params)
    (both _ _ (stores_decide x.store y.store)
    (both _ _ (pointwise_decides unsigned_Decides x.params y.params)
    (both _ _ (optional_numbers_decide x.ret_type y.ret_type)
    (both _ _ (abis_decide x.abi y.abi)
    (both _ _ (flags_decide x.is_const y.is_const)
    (both _ _ (flags_decide x.is_async y.is_async)
    (both _ _ (flags_decide x.is_unsafe y.is_unsafe)
    (both _ _ (flags_decide x.is_explicit_safe y.is_explicit_safe)
    (indices_decide x.legacy_const_indices y.legacy_const_indices))))))))))
    (λ e r i. record {
      name = e i;
      generic_params = r.0 i;
      store = r.1.0 i;
      params = r.1.1.0 i;
      ret_type = r.1.1.1.0 i;
      abi = r.1.1.1.1.0 i;
      is_const = r.1.1.1.1.1.0 i;
      is_async = r.1.1.1.1.1.1.0 i;
      is_unsafe = r.1.1.1.1.1.1.1.0 i;
      is_explicit_safe = r.1.1.1.1.1.1.1.1.0 i;
      legacy_const_indices =
          r.1.1.1.1.1.1.1.1.1 i;
    })
    (λ e i. (e i).name)
    (λ e. (
      λ i. (e i).generic_params,
      (
        λ i. (e i).store,
        (
          λ i. (e i).params,
          (
            λ i. (e i).ret_type,
            (
              λ i. (e i).abi,
              (
                λ i. (e i).is_const,
                (
                  λ i. (e i).is_async,
                  (
                    λ i. (e i).is_unsafe,
                    (λ i. (e i).is_explicit_safe, λ i. (e i).legacy_const_indices),
                  ),
                ),
              ),
            ),
          ),
        ),
      ),
    ))

pub structs_decide : (x y : StructParts) → Decides (structs.ghosts.eq x y) (x ≡ y)
structs_decide x y =
    and_decides _ _ (names_decide x.name y.name)
    (both _ _ (generics_decide x.generic_params y.generic_params)
    (both _ _ (stores_decide x.store y.store)
    (both _ _ (flags_decide x.is_fundamental y.is_fundamental) (shapes_decide x.shape y.shape))))
    (λ e r i. record {
      name = e i;
      generic_params = r.0 i;
      store = r.1.0 i;
      is_fundamental = r.1.1.0 i;
      shape = r.1.1.1 i;
    })
    (λ e i. (e i).name)
    (λ e. (λ i. (e i).generic_params, (λ i. (e i).store, (λ i. (e i).is_fundamental, λ i. (e i).shape))))

pub variants_decide : (x y : VariantParts) → Decides (variants.ghosts.eq x y) (x ≡ y)
variants_decide x y =
    and_decides _ _ (shapes_decide x.shape y.shape)
    (both _ _ (pointwise_decides fields_decide x.fields y.fields) (stores_decide x.store y.store))
    (λ e r i. record { shape = e i; fields = r.0 i; store = r.1 i })
    (λ e i. (e i).shape)
    (λ e. (λ i. (e i).fields, λ i. (e i).store))

pub plains_decide : (x y : PlainParts) → Decides (plains.ghosts.eq x y) (x ≡ y)
plains_decide x y =
    and_decides _ _ (generics_decide x.generic_params y.generic_params) (stores_decide x.store y.store)
    (λ e r i. record { generic_params = e i; store = r i })
    (λ e i. (e i).generic_params)
    (λ e i. (e i).store)
