-- What the definitions of this crate import of std and of lower crates, passed on from one place. Declares nothing.
pub use Rattle.std.specs.BTreeMap.{BTreeMap, get_by}
pub use Rattle.std.specs.List.{list_any, enumerate_from, list_all, flat_map, FoldsTo}
pub use Rattle.std.specs.Option.{option_map}
pub use Rattle.std.specs.Ordering.{nat_cmp}
pub use Rattle.std.specs.Prelude.{ℕ, zero, suc, ◌+◌, ◌==◌, Bool, false, List, [], ◌∷◌, ◌++◌, Option, Some, None, map, find, length, Result, Ok, Err, is_none, IsTrue, ◌||◌, true, filter_map, slice_get, codes, ◌≡◌, ◌⊎◌, ◌↔◌, Contains, ◌<◌, ⊤, slice_index_or, ◌≤◌, ◌^◌, nat_lt, OnOk, IfErr, set, cond, eqb}
pub use Rattle.hir_base.specs.IdTexts.{generic_text, body_text, fields_text, named_text, type_or_const_param_text, lifetime_param_text}
pub use Rattle.hir_base.specs.Ids.{BlockId}
pub use Rattle.hir_base.specs.declared.defs.ExpressionStoreOwnerId.{ExpressionStoreOwnerId}
pub use Rattle.hir_base.specs.declared.edition.Edition.TheVariants.{Edition2015}
pub use Rattle.hir_base.specs.declared.hygiene.SyntaxContext.{SyntaxContext}
pub use Rattle.hir_collections.specs.IdText.{id_text}
pub use Rattle.hir_forest.specs.Faults.{no_ends}
pub use Rattle.hir_forest.specs.Forest.{Marks}
pub use Rattle.hir_forest.specs.Parents.{HasParents}
pub use Rattle.hir_forest.specs.declared.roots.Ends.{Ends}
pub use Rattle.hir_forest.specs.declared.roots.Root.{Root}
pub use Rattle.hir_node.specs.ChildCalls.{Call, OnExpr, OnAnonConst, OnPat, OnType, OnLifetime, pat_of_call, pat_calls, args_calls, path_calls}
pub use Rattle.hir_node.specs.OtherIds.{pat_bindings}
pub use Rattle.hir_node.specs.declared.expr.Expr.{Expr}
pub use Rattle.hir_node.specs.declared.node_id.NodeId.{NodeId}
pub use Rattle.hir_node.specs.declared.pat.Pat.{Pat}
pub use Rattle.hir_node.specs.declared.type_ref.TypeRef.{TypeRef}
pub use Rattle.hir_path.specs.Keys.{expr_or_pat_code}
pub use Rattle.hir_path.specs.NodeIds.{ExprId, LabelId, PatId, BindingId}
pub use Rattle.hir_path.specs.declared.bound.TraitBoundModifier.{TraitBoundModifier}
pub use Rattle.hir_path.specs.declared.bound.TypeBound.{TypeBound}
pub use Rattle.hir_path.specs.declared.ids.ExprOrPatId.{ExprOrPatId}
pub use Rattle.hir_path.specs.declared.path.Path.{Path}
pub use Rattle.hir_source_map.specs.Sources.{id_key}
pub use Rattle.hir_source_map.specs.declared.source_map.ExpressionStoreSourceMap.{ExpressionStoreSourceMap}
pub use Rattle.hir_validate.specs.Faults.{RootedNodes}
unfoldable pub use Rattle.hir_validate.specs.Faults.{rooted_fault}
pub use Rattle.hir_validate.specs.Nodes.{children_of, no_nodes, graph, calls_of, Has, calls_at}
pub use Rattle.hir_validate.specs.declared.node_arenas.Nodes.{Nodes}
unfoldable pub use Rattle.hir_validate.specs.Recursion.{fold_down}
pub use Rattle.hir_validate.specs.Sizes.{HasNode, place}
pub use Rattle.hir_validate.specs.TestedParts.{path_at, is_path_at, bound_paths, all_of}
pub use Rattle.hir_validate.specs.declared.fault.FinishFault.{FinishFault}
pub use Rattle.hir_validate.specs.declared.sizes.Sizes.{Sizes}
