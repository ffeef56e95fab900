-- What the definitions of this crate import of std and of lower crates, passed on from one place. Declares nothing.
pub use Rattle.std.specs.Prelude.{◌≡◌, ◌⊎◌, ℕ, List, [], ◌∷◌, ◌++◌, length, Option, Some, None, false, map, replicate}
pub use Rattle.hir_base.specs.Ids.{Name}
pub use Rattle.hir_base.specs.declared.edition.Edition.TheVariants.{Edition2015}
pub use Rattle.hir_body.specs.Bodies.{BodyContents, body_of}
unfoldable pub use Rattle.hir_body.specs.Bodies.{body_fault}
pub use Rattle.hir_body.specs.declared.formals.Param.{Param}
pub use Rattle.hir_collections.specs.declared.arena.ArenaFault.TheVariants.{Full, Memory}
pub use Rattle.hir_collections.specs.declared.arena.TheConstants.{MOST_ITEMS}
pub use Rattle.hir_error.specs.NamedIds.{missing_id}
pub use Rattle.hir_error.specs.StoreErrors.{store_error}
pub use Rattle.hir_error.specs.declared.error.HirError.{HirError}
pub use Rattle.hir_error.specs.declared.named_id.NamedId.{NamedId}
pub use Rattle.hir_node.specs.declared.binding.Binding.{Binding}
pub use Rattle.hir_node.specs.declared.binding.BindingAnnotation.{BindingAnnotation}
pub use Rattle.hir_node.specs.declared.binding.BindingAnnotation.TheVariants.{Unannotated}
pub use Rattle.hir_node.specs.declared.binding.Label.{Label}
pub use Rattle.hir_node.specs.declared.expr.Expr.{Expr}
pub use Rattle.hir_node.specs.declared.expr_types.Statement.{Statement}
pub use Rattle.hir_node.specs.declared.node_id.NodeId.{NodeId}
pub use Rattle.hir_node.specs.declared.pat.Pat.{Pat}
pub use Rattle.hir_node.specs.declared.type_ref.Mutability.{Mutability}
pub use Rattle.hir_node.specs.declared.type_ref.RefType.{RefType}
pub use Rattle.hir_node.specs.declared.type_ref.TypeRef.{TypeRef}
pub use Rattle.hir_path.specs.NodeIds.{ExprId, PatId, TypeRefId, LabelId}
pub use Rattle.hir_path.specs.declared.path.GenericArgs.{GenericArgs}
pub use Rattle.hir_signature.specs.Generics.{empty}
pub use Rattle.hir_signature.specs.declared.signature_fault.SignatureFault.{SignatureFault}
pub use Rattle.hir_signature.specs.declared.signatures.FieldData.{FieldData}
pub use Rattle.hir_signature.specs.declared.signatures.FieldsShape.{FieldsShape}
pub use Rattle.hir_signature.specs.declared.signatures.FunctionParts.{FunctionParts}
pub use Rattle.hir_signature.specs.declared.signatures.StructParts.{StructParts}
pub use Rattle.hir_signature.specs.declared.signatures.VariantParts.{VariantParts}
pub use Rattle.hir_source_map.specs.Additions.{finish_sources}
pub use Rattle.hir_source_map.specs.declared.source_map.ExpressionStoreSourceMap.{ExpressionStoreSourceMap}
pub use Rattle.hir_store.specs.Building.{building_of, nodes_of, contents_of, has_exprs, and_root}
unfoldable pub use Rattle.hir_store.specs.Building.{finish_fault}
pub use Rattle.hir_store.specs.declared.builder.ExpressionStoreBuilder.{ExpressionStoreBuilder}
pub use Rattle.hir_validate.specs.declared.fault.FinishFault.{FinishFault}
