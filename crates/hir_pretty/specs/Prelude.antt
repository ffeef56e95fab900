-- What the definitions of this crate import of std and of lower crates, passed on from one place. Declares nothing.
pub use Rattle.std.specs.List.{enumerate_from, list_any}
pub use Rattle.std.specs.Prelude.{List, [], ◌∷◌, ◌++◌, map, Option, Result, Ok, Err, codes, option_map, option_to_list, ◌≡◌, ℕ, false, Some, None, String, Bool, ◌==◌, decimal, flat_map, get_or}
pub use Rattle.hir_base.specs.Abi.{abi_text}
pub use Rattle.hir_base.specs.Ids.{EnumId, EnumVariantId, FunctionId, StructId, Name}
pub use Rattle.hir_base.specs.Keys.{fields_code}
pub use Rattle.hir_base.specs.ModPath.{ModPath}
pub use Rattle.hir_base.specs.declared.abi.ExternAbi.{ExternAbi}
pub use Rattle.hir_base.specs.declared.defs.AdtId.{AdtId}
pub use Rattle.hir_base.specs.declared.defs.DefWithBodyId.{DefWithBodyId}
pub use Rattle.hir_base.specs.declared.defs.GenericDefId.{GenericDefId}
pub use Rattle.hir_base.specs.declared.defs.VariantId.{VariantId}
pub use Rattle.hir_base.specs.declared.mod_path.PathKind.{PathKind}
pub use Rattle.hir_base.specs.declared.mod_path.PathKind.TheVariants.{Plain, Super, Crate, Abs, DollarCrate}
pub use Rattle.hir_body.specs.Bodies.{BodyContents, formals_of, last_root}
pub use Rattle.hir_body.specs.declared.formals.Param.{Param}
pub use Rattle.hir_defs.specs.Lookups.{Tables}
pub use Rattle.hir_defs.specs.declared.plain_def.Repr.{Repr}
pub use Rattle.hir_path.specs.NodeIds.{PatId, BindingId, TypeRefId}
pub use Rattle.hir_pretty_nodes.specs.Prelude.{Missing, PrintEnv, Doc, MissingDoc, text, e, p, opt, comma_joined, binding_docs, found_name, found_or, print_env, lookups_of, PrintsPieces, doc_list_pieces, br, into, out, t, when, join, with_number, name_docs, l, bound_docs, for_names, supers, NameLookups, first_missing}
pub use Rattle.hir_pretty_nodes.specs.declared.fault.PrintFault.{PrintFault}
pub use Rattle.hir_signature.specs.Generics.{Generics}
pub use Rattle.hir_signature.specs.declared.any_param.TypeOrConstParamData.{TypeOrConstParamData}
pub use Rattle.hir_signature.specs.declared.param_data.LifetimeParamData.{LifetimeParamData}
pub use Rattle.hir_signature.specs.declared.predicate.WherePredicate.{WherePredicate}
pub use Rattle.hir_signature.specs.declared.signatures.FieldData.{FieldData}
pub use Rattle.hir_signature.specs.declared.signatures.FieldsShape.{FieldsShape}
pub use Rattle.hir_signature.specs.declared.signatures.FunctionParts.{FunctionParts}
pub use Rattle.hir_signature.specs.declared.signatures.RawVisibility.{RawVisibility}
pub use Rattle.hir_signature.specs.declared.signatures.StructParts.{StructParts}
pub use Rattle.hir_signature.specs.declared.signatures.VariantParts.{VariantParts}
pub use Rattle.hir_store_core.specs.Contents.{Contents}
