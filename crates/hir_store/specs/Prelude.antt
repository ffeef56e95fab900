-- What the definitions of this crate import of std and of lower crates, passed on from one place. Declares nothing.
pub use Rattle.std.specs.Prelude.{◌≡◌, ◌⊎◌, List, [], ◌∷◌, ◌++◌, Bool, not, ◌||◌, cond, nat_eq, length, Option, Some, None, IsSome}
pub use Rattle.std.specs.declared.alloc.Global.{Global}
pub use Rattle.hir_forest.specs.Verdict.{◌unless◌, ◌before◌}
pub use Rattle.hir_forest.specs.declared.roots.Root.{Root}
pub use Rattle.hir_path.specs.NodeIds.{ExprId}
pub use Rattle.hir_source_map.specs.Additions.{HasSameMaps, no_sources}
pub use Rattle.hir_store_core.specs.Contents.{Contents, contents_fault}
pub use Rattle.hir_store_core.specs.SideTables.{no_side_tables}
pub use Rattle.hir_store_core.specs.declared.side_tables.SideTables.{SideTables}
pub use Rattle.hir_validate.specs.Faults.{ends_of}
pub use Rattle.hir_validate.specs.declared.node_arenas.Nodes.{Nodes}
pub use Rattle.hir_validate.specs.declared.fault.FinishFault.{FinishFault}
pub use Rattle.hir_validate.specs.declared.fault.FinishFault.TheVariants.{NoRoots}
