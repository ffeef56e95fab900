-- What the definitions of this crate import of std and of lower crates, passed on from one place. Declares nothing.
pub use Rattle.std.specs.Fmt.{decimal, signed_decimal}
pub use Rattle.std.specs.Int.{w128}
pub use Rattle.std.specs.List.{slice_split, AllZip, join_with_byte}
pub use Rattle.std.specs.Option.{option_map, option_and_then}
pub use Rattle.std.specs.Prelude.{ℕ, Bool, true, false, List, [], ◌∷◌, Option, codes, ℤ, map, None, Some, ◌≡◌, ⊤, ◌++◌, eqb, ◌<◌, ◌^◌, pos, ◌⊎◌, FitsSigned}
pub use Rattle.std.specs.Str.{bytes_eq}
pub use Rattle.hir_base.specs.Ids.{BlockId}
pub use Rattle.hir_base.specs.declared.edition.Edition.TheVariants.{Edition2015}
pub use Rattle.hir_base.specs.declared.hygiene.SyntaxContext.{SyntaxContext}
pub use Rattle.hir_base.specs.declared.hygiene.SyntaxContext.TheVariants.{Expansion}
pub use Rattle.hir_base.specs.declared.mod_path.PathKind.TheVariants.{Plain}
pub use Rattle.hir_base.specs.declared.operators.ArithOp.{ArithOp}
pub use Rattle.hir_base.specs.declared.operators.ArithOp.TheVariants.{Add, Sub, Mul, Div, Rem, Shl, Shr, BitXor, BitOr, BitAnd}
pub use Rattle.hir_base.specs.declared.operators.BinaryOp.{BinaryOp}
pub use Rattle.hir_base.specs.declared.operators.CmpOp.TheVariants.{Eq, Ord}
pub use Rattle.hir_base.specs.declared.operators.LogicOp.TheVariants.{And}
pub use Rattle.hir_base.specs.declared.operators.Ordering.TheVariants.{Less, Greater}
pub use Rattle.hir_base.specs.declared.operators.RangeOp.TheVariants.{Inclusive}
pub use Rattle.hir_node.specs.declared.binding.Binding.{Binding}
pub use Rattle.hir_node.specs.declared.binding.BindingAnnotation.TheVariants.{Unannotated}
pub use Rattle.hir_node.specs.declared.expr.Expr.{Expr}
pub use Rattle.hir_node.specs.declared.expr.Expr.TheVariants.{Missing, Path, Const, If, Block, Loop, Call, Match, Assignment, Tuple}
pub use Rattle.hir_node.specs.declared.expr_types.Array.TheVariants.{ElementList, Repeat}
pub use Rattle.hir_node.specs.declared.expr_types.ClosureKind.TheVariants.{Closure}
pub use Rattle.hir_node.specs.declared.expr_types.Item.TheVariants.{MacroDef, Other}
pub use Rattle.hir_node.specs.declared.expr_types.MatchArm.{MatchArm}
pub use Rattle.hir_node.specs.declared.expr_types.Statement.{Statement}
pub use Rattle.hir_node.specs.declared.expr_types.Statement.TheVariants.{Let, Item}
pub use Rattle.hir_node.specs.declared.literal.Literal.TheVariants.{Int}
pub use Rattle.hir_node.specs.declared.pat.Pat.{Pat}
pub use Rattle.hir_node.specs.declared.pat.Pat.TheVariants.{Rest, Wild, Or, Range, Lit, Bind, TupleStruct}
pub use Rattle.hir_node.specs.declared.type_ref.ArrayType.{ArrayType}
pub use Rattle.hir_node.specs.declared.type_ref.Mutability.TheVariants.{Shared}
pub use Rattle.hir_node.specs.declared.type_ref.TypeRef.{TypeRef}
pub use Rattle.hir_node.specs.declared.type_ref.TypeRef.TheVariants.{Never, Array, PatternType}
pub use Rattle.hir_path.specs.NodeIds.{ExprId, PatId, TypeRefId, BindingId}
pub use Rattle.hir_path.specs.declared.ids.ExprOrPatId.{ExprOrPatId}
pub use Rattle.hir_path.specs.declared.path.Path.TheVariants.{BarePath}
