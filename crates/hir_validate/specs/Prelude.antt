-- What the definitions of this crate import of std and of lower crates, passed on from one place. Declares nothing.
pub use Rattle.std.specs.List.{list_all}
pub use Rattle.std.specs.Option.{option_and_then, option_copied}
pub use Rattle.std.specs.Prelude.{ℕ, List, [], Option, None, IsTrue, true, length, map, slice_index_or, Bool, ◌&&◌, ◌++◌, slice_get, ◌≡◌, ◌<◌, zero, suc, ◌∷◌, ⊤, Contains, ◌+◌, ◌-◌, ◌≤◌, nat_lt, cond, ◌≢◌, slice_index, false, eqb, Some, flat_map, is_some}
pub use Rattle.hir_forest.specs.Faults.{root_nodes, EndsFit, ends_before}
unfoldable pub use Rattle.hir_forest.specs.Faults.{forest_fault}
pub use Rattle.hir_forest.specs.Forest.{LiesUnder}
unfoldable pub use Rattle.hir_forest.specs.Height.{height}
pub use Rattle.hir_forest.specs.Parents.{IsParentageOf}
pub use Rattle.hir_forest.specs.Rows.{with_children}
pub use Rattle.hir_forest.specs.Verdict.{◌unless◌, ◌before◌, first_below, in_words}
pub use Rattle.hir_forest.specs.declared.roots.Ends.{Ends}
pub use Rattle.hir_forest.specs.declared.roots.ForestFault.{ForestFault}
pub use Rattle.hir_forest.specs.declared.roots.Root.{Root}
pub use Rattle.hir_node.specs.ChildCalls.{path_calls, args_calls, bound_calls, Call, expr_calls, pat_calls, type_calls, opt, children, OnExpr, OnAnonConst, OnPat, OnType, OnLifetime}
pub use Rattle.hir_node.specs.OtherIds.{expr_labels, pat_bindings}
pub use Rattle.hir_node.specs.declared.expr.Expr.{Expr}
pub use Rattle.hir_node.specs.declared.node_id.NodeId.{NodeId}
pub use Rattle.hir_node.specs.declared.pat.Pat.{Pat}
pub use Rattle.hir_node.specs.declared.type_ref.TypeRef.{TypeRef}
pub use Rattle.hir_path.specs.NodeIds.{TypeRefId, BindingId, LabelId}
pub use Rattle.hir_path.specs.declared.bound.TypeBound.{TypeBound}
pub use Rattle.hir_path.specs.declared.path.AssociatedTypeBinding.{AssociatedTypeBinding-F, AssociatedTypeBinding, fold-AssociatedTypeBinding}
pub use Rattle.hir_path.specs.declared.path.GenericArg.{GenericArg}
pub use Rattle.hir_path.specs.declared.path.GenericArgs.{GenericArgs, GenericArgs-F, fold-GenericArgs}
pub use Rattle.hir_path.specs.declared.path.Path.{Path}
