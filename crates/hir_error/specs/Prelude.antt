-- What the definitions of this crate import of std and of lower crates, passed on from one place. Declares nothing.
pub use Rattle.std.specs.Option.{option_or}
pub use Rattle.std.specs.Prelude.{Bool, not, nat_lt, List, ◌++◌, map, find, slice_get, Option, codes, decimal, ℕ, Some, None, ◌≡◌, [], ◌∷◌}
pub use Rattle.hir_base.specs.IdTexts.{generic_text, body_text, fields_text, named_text, type_or_const_param_text, lifetime_param_text}
pub use Rattle.hir_body.specs.declared.body_fault.BodyFault.{BodyFault}
pub use Rattle.hir_captures.specs.declared.fault.CapturesFault.{CapturesFault}
pub use Rattle.hir_collections.specs.IdText.{id_text}
pub use Rattle.hir_collections.specs.declared.arena.ArenaFault.{ArenaFault}
pub use Rattle.hir_node.specs.ChildCalls.{Call, OnExpr, OnAnonConst, OnPat, OnType, OnLifetime, expr_calls, pat_calls, type_calls}
pub use Rattle.hir_node.specs.NodeText.{node_text}
pub use Rattle.hir_node.specs.OtherIds.{expr_labels, pat_bindings}
pub use Rattle.hir_node.specs.declared.expr.Expr.{Expr}
pub use Rattle.hir_node.specs.declared.node_id.NodeId.{NodeId}
pub use Rattle.hir_node.specs.declared.pat.Pat.{Pat}
pub use Rattle.hir_node.specs.declared.type_ref.TypeRef.{TypeRef}
pub use Rattle.hir_path.specs.declared.ids.ExprOrPatId.{ExprOrPatId}
pub use Rattle.hir_scope.specs.declared.fault.ScopesFault.{ScopesFault}
pub use Rattle.hir_signature.specs.declared.signature_fault.SignatureFault.{SignatureFault}
pub use Rattle.hir_store_core.specs.declared.missing.Missing.{Missing}
pub use Rattle.hir_store_core.specs.declared.missing.Missing.TheVariants.{Name, Variant, Crate, Signature, Body, Fields, TypeParam, LifetimeParam, DefMap}
pub use Rattle.hir_usages.specs.declared.rename_fault.RenameFault.{RenameFault}
pub use Rattle.hir_validate.specs.Nodes.{sizes_of}
pub use Rattle.hir_validate.specs.declared.node_arenas.Nodes.{Nodes}
pub use Rattle.hir_validate.specs.TestedParts.{all_of}
pub use Rattle.hir_validate.specs.declared.fault.FinishFault.{FinishFault}
pub use Rattle.hir_validate.specs.declared.sizes.Sizes.{Sizes}
