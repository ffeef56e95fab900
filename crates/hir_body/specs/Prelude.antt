-- What the definitions of this crate import of std and of lower crates, passed on from one place. Declares nothing.
pub use Rattle.std.specs.Fmt.{decimal}
pub use Rattle.std.specs.Option.{option_to_list}
pub use Rattle.std.specs.Prelude.{◌≡◌, ◌⊎◌, ◌<◌, ℕ, List, [], ◌∷◌, ◌++◌, Option, Some, None, IfSome, option_map, length, map, take, slice_index, Contains, codes, ◌↔◌}
pub use Rattle.hir_forest.specs.Faults.{root_nodes}
pub use Rattle.hir_forest.specs.Verdict.{◌unless◌, ◌before◌, first_below}
pub use Rattle.hir_node.specs.declared.node_id.NodeId.{NodeId}
pub use Rattle.hir_path.specs.Lists.{last_of}
pub use Rattle.hir_path.specs.NodeIds.{ExprId, PatId, BindingId}
pub use Rattle.hir_store_core.specs.Contents.{Contents}
pub use Rattle.hir_store_core.specs.NodeSets.{MarkedNodes, IsIn}
pub use Rattle.hir_store_core.specs.Under.{LiesUnderOther, IsReached, reached_nodes}
pub use Rattle.hir_validate.specs.declared.node_arenas.Nodes.{Nodes}
pub use Rattle.hir_validate.specs.Sizes.{HasNode}
