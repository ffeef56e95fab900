-- What the definitions of this crate import of std and of lower crates, passed on from one place. Declares nothing.
pub use Rattle.std.specs.Cmp.Lexicographic.{pointwise}
pub use Rattle.std.specs.Option.{option_eq, option_map}
pub use Rattle.std.specs.Prelude.{◌≡◌, [], ◌∷◌, ◌++◌, Bool, ◌||◌, cond, Some, None, List, Option, ◌&&◌, ℕ, Result, Ok, Err, length, not, ◌==◌, nat_eq}
pub use Rattle.std.specs.declared.alloc.Global.{Global}
pub use Rattle.hir_base.specs.Ids.{MacroCallId}
pub use Rattle.hir_base.specs.Keys.{node_code}
pub use Rattle.hir_base.specs.declared.ptr.InFile.{InFile}
pub use Rattle.hir_base.specs.declared.ptr.SyntaxNodePtr.{SyntaxNodePtr}
pub use Rattle.hir_base.specs.declared.ptr.SyntheticSyntax.{SyntheticSyntax}
pub use Rattle.hir_collections.specs.Maps.{same_maps}
pub use Rattle.hir_collections.specs.Table.{by_code}
pub use Rattle.hir_path.specs.NodeIds.{ExprId, PatId, BindingId, LabelId, TypeRefId, LifetimeRefId}
pub use Rattle.hir_path.specs.declared.ids.ExprOrPatId.{ExprOrPatId}
