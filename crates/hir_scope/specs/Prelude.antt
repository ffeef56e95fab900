-- What the definitions of this crate import of std and of lower crates, passed on from one place. Declares nothing.
pub use Rattle.std.specs.List.{filter, flat_map, sum_by}
pub use Rattle.std.specs.Option.{option_map}
pub use Rattle.std.specs.Ordering.{nat_cmp}
pub use Rattle.std.specs.Prelude.{◌≡◌, ◌↔◌, ◌<◌, ◌⊎◌, ℕ, Bool, true, false, List, Some, IsSome, length, ◌∷◌, ◌++◌, map, Contains, [], Option, None, ◌+◌, ◌-◌, ◌≤◌, take, drop, slice_get, Result, Err, IfOk, zero, codes, nat_lt, fold, slice_index_or, ⊤, suc, IfSome, replicate}
pub use Rattle.hir_base.specs.Ids.{BlockId, Name, MacroDefId}
pub use Rattle.hir_base.specs.declared.defs.DefWithBodyId.{DefWithBodyId}
pub use Rattle.hir_base.specs.declared.defs.ExpressionStoreOwnerId.{ExpressionStoreOwnerId}
pub use Rattle.hir_base.specs.declared.hygiene.SyntaxContext.{SyntaxContext}
pub use Rattle.hir_base.specs.declared.mod_path.PathKind.{PathKind}
pub use Rattle.hir_base.specs.declared.mod_path.PathKind.TheVariants.{Plain, Super}
pub use Rattle.hir_body.specs.Bodies.{BodyContents, BodyReaches, body_nodes, formals_of, last_root, AreBelow, entry_nodes}
pub use Rattle.hir_body.specs.Lookups.{BodyAndSources}
pub use Rattle.hir_collections.specs.Stacks.{StackItems, Defers}
pub use Rattle.hir_forest.specs.Faults.{root_nodes}
pub use Rattle.hir_node.specs.ChildCalls.{Call, OnExpr, OnAnonConst, OnPat, OnType, OnLifetime, e, p, t, opt, expr_calls, pat_calls, type_calls, children}
pub use Rattle.hir_node.specs.declared.binding.Binding.{Binding}
pub use Rattle.hir_node.specs.declared.expr.Expr.{Expr}
pub use Rattle.hir_node.specs.declared.expr_types.Item.{Item}
pub use Rattle.hir_node.specs.declared.expr_types.MatchArm.{MatchArm}
pub use Rattle.hir_node.specs.declared.expr_types.Statement.{Statement}
pub use Rattle.hir_node.specs.declared.node_id.NodeId.{NodeId}
pub use Rattle.hir_node.specs.declared.pat.Pat.{Pat}
pub use Rattle.hir_node.specs.declared.type_ref.TypeRef.{TypeRef}
pub use Rattle.hir_path.specs.NodeIds.{ExprId, LabelId, PatId, BindingId, TypeRefId}
pub use Rattle.hir_path.specs.declared.path.Path.{Path}
pub use Rattle.hir_signature.specs.Signatures.{SignatureReaches, signature_nodes, root_entry_nodes}
pub use Rattle.hir_store_core.specs.Contents.{Contents}
pub use Rattle.hir_store_core.specs.Owners.{StoreAndSources}
pub use Rattle.hir_store_core.specs.PatLists.{bindings_at, bindings_in, child_pats_of}
pub use Rattle.hir_store_core.specs.SideTables.{hygiene_of}
unfoldable pub use Rattle.hir_store_core.specs.Under.{nodes_under}
pub use Rattle.hir_validate.specs.Nodes.{Has, children_of}
pub use Rattle.hir_validate.specs.declared.node_arenas.Nodes.{Nodes}
pub use Rattle.hir_validate.specs.Recursion.{RankDecreases}
unfoldable pub use Rattle.hir_validate.specs.Recursion.{fold_down}
pub use Rattle.hir_validate.specs.Sound.{IsSoundNode}
pub use Rattle.hir_validate.specs.TestedParts.{all_of, tested_pat}
