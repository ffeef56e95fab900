-- What the definitions of this crate import of std and of lower crates, passed on from one place. Declares nothing.
pub use Rattle.std.specs.Cmp.Lexicographic.{pointwise}
pub use Rattle.std.specs.List.{filter, enumerate_from, position, list_all}
pub use Rattle.std.specs.Option.{MatchOption, option_map, is_some}
pub use Rattle.std.specs.Prelude.{◌≡◌, ℕ, List, ◌∷◌, ◌++◌, length, Option, Some, nat_eq, [], take, slice_get, Bool, false, cond, None, true, ◌<◌, ◌&&◌, All, IfSome, IsTrue, map, nat_lt}
pub use Rattle.hir_base.specs.Ids.{Name}
pub use Rattle.hir_base.specs.declared.defs.GenericDefId.{GenericDefId}
pub use Rattle.hir_base.specs.declared.params.LifetimeParamId.{LifetimeParamId}
pub use Rattle.hir_base.specs.declared.params.TypeOrConstParamId.{TypeOrConstParamId}
pub use Rattle.hir_forest.specs.Faults.{root_nodes}
pub use Rattle.hir_forest.specs.Verdict.{◌unless◌, ◌before◌}
pub use Rattle.hir_node.specs.ChildCalls.{Call, a, t, l, opt, bound_calls}
pub use Rattle.hir_node.specs.declared.node_id.NodeId.{NodeId}
pub use Rattle.hir_path.specs.NodeIds.{TypeRefId}
pub use Rattle.hir_source_map.specs.declared.source_map.ExpressionStoreSourceMap.{ExpressionStoreSourceMap}
pub use Rattle.hir_store_core.specs.Contents.{Contents}
pub use Rattle.hir_store_core.specs.Under.{IsReached, reached_nodes}
pub use Rattle.hir_validate.specs.Fits.{bound_fits}
pub use Rattle.hir_validate.specs.Nodes.{sizes_of}
pub use Rattle.hir_validate.specs.declared.node_arenas.Nodes.{Nodes}
pub use Rattle.hir_validate.specs.Sizes.{is_in_range}
pub use Rattle.hir_validate.specs.TestedParts.{is_path_at, bound_paths}
