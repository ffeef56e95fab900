-- What the definitions of this crate import of std and of lower crates, passed on from one place. Declares nothing.
pub use Rattle.std.specs.List.{All, list_any, flat_map, filter, AllByRecursion}
pub use Rattle.std.specs.Option.{option_or, option_to_list}
pub use Rattle.std.specs.Ordering.{nat_cmp}
pub use Rattle.std.specs.Prelude.{◌≡◌, List, [], Option, Some, None, ◌≢◌, ℕ, ◌∷◌, ◌++◌, zero, suc, fold, map, Bool, true, false, ◌==◌, ◌&&◌, ◌||◌, not, codes, option_map, slice_get, is_some}
pub use Rattle.hir_base.specs.Ids.{Name}
pub use Rattle.hir_base.specs.declared.hygiene.SyntaxContext.{SyntaxContext}
pub use Rattle.hir_body.specs.Bodies.{BodyContents, entry_nodes}
pub use Rattle.hir_body.specs.declared.formals.Param.{Param}
pub use Rattle.hir_captures.specs.Captures.{each_once}
pub use Rattle.hir_captures.specs.Uses.{Spot, spot, assignment_at, of_pattern}
pub use Rattle.hir_node.specs.ChildCalls.{children, Call, OnExpr, OnAnonConst, OnPat, OnType, OnLifetime}
pub use Rattle.hir_node.specs.declared.binding.Binding.{Binding}
pub use Rattle.hir_node.specs.declared.expr.Expr.{Expr}
pub use Rattle.hir_node.specs.declared.node_id.NodeId.{NodeId}
pub use Rattle.hir_node.specs.declared.pat.Pat.{Pat}
pub use Rattle.hir_path.specs.NodeIds.{BindingId, ExprId, PatId}
pub use Rattle.hir_path.specs.Paths.{one_name}
pub use Rattle.hir_path.specs.declared.ids.ExprOrPatId.{ExprOrPatId}
pub use Rattle.hir_path.specs.declared.path.Path.{Path}
pub use Rattle.hir_scope.specs.BodyScopes.{entry_nodes_of_body}
pub use Rattle.hir_scope.specs.Chains.{HasChain}
pub use Rattle.hir_scope.specs.Frames.{Chain, Frame}
pub use Rattle.hir_scope.specs.Order.{met_in_form}
pub use Rattle.hir_scope.specs.PathResolution.{local_name, binding_at, binding_of, target_binding_at}
pub use Rattle.hir_scope.specs.Paths.{chain}
pub use Rattle.hir_scope.specs.Resolution.{matches, resolve, entries_of}
pub use Rattle.hir_scope.specs.Scopes.{Scopes, Scope}
pub use Rattle.hir_scope.specs.ScopingForms.{form_of}
pub use Rattle.hir_scope.specs.declared.scope.ScopeEntry.{ScopeEntry}
pub use Rattle.hir_store_core.specs.Contents.{Contents}
pub use Rattle.hir_store_core.specs.PatLists.{bindings_at}
pub use Rattle.hir_store_core.specs.SideTables.{hygiene_of}
pub use Rattle.hir_validate.specs.Nodes.{Has}
pub use Rattle.hir_validate.specs.declared.node_arenas.Nodes.{Nodes}
unfoldable pub use Rattle.hir_validate.specs.Recursion.{fold_down}
