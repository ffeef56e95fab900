-- What the definitions of this crate import of std and of lower crates, passed on from one place. Declares nothing.
pub use Rattle.std.specs.List.{list_any, AllByRecursion, flat_map}
pub use Rattle.std.specs.Option.{option_map}
pub use Rattle.std.specs.Ordering.{nat_cmp}
pub use Rattle.std.specs.Prelude.{◌≡◌, ℕ, ◌-◌, ⊤, List, [], ◌∷◌, ◌++◌, Option, Some, None, fold, take, length, filter_map, slice_get, ◌==◌, Bool, is_some, ◌<◌}
pub use Rattle.hir_base.specs.Ids.{Name}
pub use Rattle.hir_base.specs.declared.hygiene.SyntaxContext.{SyntaxContext}
pub use Rattle.hir_body.specs.Bodies.{BodyContents, BodyReaches}
pub use Rattle.hir_node.specs.ChildCalls.{Call, OnExpr, OnAnonConst, OnPat, OnType, OnLifetime}
pub use Rattle.hir_node.specs.declared.expr.Expr.{Expr}
pub use Rattle.hir_node.specs.declared.node_id.NodeId.{NodeId}
pub use Rattle.hir_node.specs.declared.pat.Pat.{Pat}
pub use Rattle.hir_path.specs.NodeIds.{ExprId, BindingId, PatId}
pub use Rattle.hir_scope.specs.BodyScopes.{entry_nodes_of_body}
pub use Rattle.hir_scope.specs.Chains.{HasChain}
pub use Rattle.hir_scope.specs.ChildContexts.{Base, Scope, ConstScope, ChildContext}
unfoldable pub use Rattle.hir_scope.specs.ChildContexts.{child_contexts}
pub use Rattle.hir_scope.specs.Frames.{Chain}
pub use Rattle.hir_scope.specs.PathResolution.{local_name}
pub use Rattle.hir_scope.specs.Paths.{chain}
pub use Rattle.hir_scope.specs.Resolution.{resolve}
pub use Rattle.hir_scope.specs.Scopes.{Scopes}
pub use Rattle.hir_scope.specs.declared.scope.ScopeEntry.{ScopeEntry}
pub use Rattle.hir_store_core.specs.Contents.{Contents}
pub use Rattle.hir_store_core.specs.SideTables.{hygiene_of}
pub use Rattle.hir_validate.specs.Nodes.{Has}
pub use Rattle.hir_validate.specs.declared.node_arenas.Nodes.{Nodes}
unfoldable pub use Rattle.hir_validate.specs.Recursion.{fold_down}
