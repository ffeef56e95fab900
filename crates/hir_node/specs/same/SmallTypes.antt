-- That `==` of the small types of expressions, patterns and types decides whether they are the same.
use Rattle.std.specs.Prelude.{◌≡◌, List, Option}
use Rattle.std.specs.Bool.{Decides}
use Rattle.std.specs.Option.{option_eq}
use Rattle.std.specs.Cmp.Lexicographic.{pointwise, pointwise_decides}
use Rattle.hir_collections.specs.Exact.{exact, options_decide}
use Rattle.hir_base.specs.declared.params.TypeOrConstParamId.{TypeOrConstParamId}
use Rattle.hir_path.specs.declared.path.Path.{Path}
use Rattle.hir_path.specs.contracts.path.PathPartialEq.TheImpl as paths
use Rattle.hir_path.specs.contracts.path.PathExactEq.TheImpl.Laws as paths_law
use Rattle.hir_node.specs.declared.literal.Literal.{Literal}
use Rattle.hir_node.specs.contracts.literal.LiteralPartialEq.TheImpl as literals
use Rattle.hir_node.specs.contracts.literal.LiteralExactEq.TheImpl.Laws as literals_law
use Rattle.hir_node.specs.declared.type_ref.Mutability.{Mutability}
use Rattle.hir_node.specs.contracts.type_ref.MutabilityPartialEq.TheImpl as mutabilities
use Rattle.hir_node.specs.contracts.type_ref.MutabilityExactEq.TheImpl.Laws as mutabilities_law
use Rattle.hir_node.specs.declared.type_ref.Rawness.{Rawness}
use Rattle.hir_node.specs.contracts.type_ref.RawnessPartialEq.TheImpl as rawnesses
use Rattle.hir_node.specs.contracts.type_ref.RawnessExactEq.TheImpl.Laws as rawnesses_law
use Rattle.hir_node.specs.declared.type_ref.RefType.{RefType}
use Rattle.hir_node.specs.contracts.type_ref.RefTypePartialEq.TheImpl as ref_types
use Rattle.hir_node.specs.contracts.type_ref.RefTypeExactEq.TheImpl.Laws as ref_types_law
use Rattle.hir_node.specs.declared.type_ref.ArrayType.{ArrayType}
use Rattle.hir_node.specs.contracts.type_ref.ArrayTypePartialEq.TheImpl as array_types
use Rattle.hir_node.specs.contracts.type_ref.ArrayTypeExactEq.TheImpl.Laws as array_types_law
use Rattle.hir_node.specs.declared.type_ref.FnType.{FnType}
use Rattle.hir_node.specs.contracts.type_ref.FnTypePartialEq.TheImpl as fn_types
use Rattle.hir_node.specs.contracts.type_ref.FnTypeExactEq.TheImpl.Laws as fn_types_law
use Rattle.hir_node.specs.declared.expr_types.Array.{Array}
use Rattle.hir_node.specs.contracts.expr_types.ArrayPartialEq.TheImpl as arrays
use Rattle.hir_node.specs.contracts.expr_types.ArrayExactEq.TheImpl.Laws as arrays_law
use Rattle.hir_node.specs.declared.expr_types.OffsetOf.{OffsetOf}
use Rattle.hir_node.specs.contracts.expr_types.OffsetOfPartialEq.TheImpl as offsets
use Rattle.hir_node.specs.contracts.expr_types.OffsetOfExactEq.TheImpl.Laws as offsets_law
use Rattle.hir_node.specs.declared.expr_types.RecordSpread.{RecordSpread}
use Rattle.hir_node.specs.contracts.expr_types.RecordSpreadPartialEq.TheImpl as spreads
use Rattle.hir_node.specs.contracts.expr_types.RecordSpreadExactEq.TheImpl.Laws as spreads_law
use Rattle.hir_node.specs.declared.expr_types.Unsafe.{Unsafe}
use Rattle.hir_node.specs.contracts.expr_types.UnsafePartialEq.TheImpl as unsafes
use Rattle.hir_node.specs.contracts.expr_types.UnsafeExactEq.TheImpl.Laws as unsafes_law
use Rattle.hir_node.specs.declared.expr_types.LoopSource.{LoopSource}
use Rattle.hir_node.specs.contracts.expr_types.LoopSourcePartialEq.TheImpl as loop_sources
use Rattle.hir_node.specs.contracts.expr_types.LoopSourceExactEq.TheImpl.Laws as loop_sources_law
use Rattle.hir_node.specs.declared.expr_types.ClosureKind.{ClosureKind}
use Rattle.hir_node.specs.contracts.expr_types.ClosureKindPartialEq.TheImpl as closure_kinds
use Rattle.hir_node.specs.contracts.expr_types.ClosureKindExactEq.TheImpl.Laws as closure_kinds_law
use Rattle.hir_node.specs.declared.expr_types.CaptureBy.{CaptureBy}
use Rattle.hir_node.specs.contracts.expr_types.CaptureByPartialEq.TheImpl as captures
use Rattle.hir_node.specs.contracts.expr_types.CaptureByExactEq.TheImpl.Laws as captures_law
use Rattle.hir_base.specs.declared.operators.RangeOp.{RangeOp}
use Rattle.hir_base.specs.contracts.operators.RangeOpPartialEq.TheImpl as ranges
use Rattle.hir_base.specs.contracts.operators.RangeOpExactEq.TheImpl.Laws as ranges_law
use Rattle.hir_base.specs.declared.operators.UnaryOp.{UnaryOp}
use Rattle.hir_base.specs.contracts.operators.UnaryOpPartialEq.TheImpl as unary_ops
use Rattle.hir_base.specs.contracts.operators.UnaryOpExactEq.TheImpl.Laws as unary_ops_law
use Rattle.hir_base.specs.contracts.params.TypeParamIdPartialEq.TheImpl as params
use Rattle.hir_base.specs.contracts.params.TypeParamIdExactEq.TheImpl.Laws as params_law
use Rattle.hir_node.specs.declared.expr_types.Statement.{Statement}
use Rattle.hir_node.specs.contracts.expr_types.StatementPartialEq.TheImpl as statements
use Rattle.hir_node.specs.contracts.expr_types.StatementExactEq.TheImpl.Laws as statements_law
use Rattle.hir_node.specs.declared.expr_types.MatchArm.{MatchArm}
use Rattle.hir_node.specs.contracts.expr_types.MatchArmPartialEq.TheImpl as arms
use Rattle.hir_node.specs.contracts.expr_types.MatchArmExactEq.TheImpl.Laws as arms_law
use Rattle.hir_node.specs.declared.expr_types.RecordLitField.{RecordLitField}
use Rattle.hir_node.specs.contracts.expr_types.RecordLitFieldPartialEq.TheImpl as fields
use Rattle.hir_node.specs.contracts.expr_types.RecordLitFieldExactEq.TheImpl.Laws as fields_law
use Rattle.hir_node.specs.declared.pat.RecordFieldPat.{RecordFieldPat}
use Rattle.hir_node.specs.contracts.pat.RecordFieldPatPartialEq.TheImpl as field_pats
use Rattle.hir_node.specs.contracts.pat.RecordFieldPatExactEq.TheImpl.Laws as field_pats_law
use Rattle.hir_path.specs.declared.bound.TypeBound.{TypeBound}
use Rattle.hir_path.specs.contracts.bound.TypeBoundPartialEq.TheImpl as bounds
use Rattle.hir_path.specs.contracts.bound.TypeBoundExactEq.TheImpl.Laws as bounds_law
use Rattle.hir_base.specs.declared.operators.BinaryOp.{BinaryOp}
use Rattle.hir_base.specs.contracts.operators.BinaryOpPartialEq.TheImpl as operators
use Rattle.hir_base.specs.contracts.operators.BinaryOpExactEq.TheImpl.Laws as operators_law
use Rattle.hir_path.specs.declared.path.GenericArgs.{GenericArgs}
use Rattle.hir_path.specs.contracts.path.GenericArgsPartialEq.TheImpl as given_args
use Rattle.hir_path.specs.contracts.path.GenericArgsExactEq.TheImpl.Laws as given_args_law

pub paths_decide : (x y : Path) → Decides (paths.ghosts.eq x y) (x ≡ y)
paths_decide = paths_law.lawful.eq_decides

pub literals_decide : (x y : Literal) → Decides (literals.ghosts.eq x y) (x ≡ y)
literals_decide = literals_law.lawful.eq_decides

pub mutabilities_decide : (x y : Mutability) → Decides (mutabilities.ghosts.eq x y) (x ≡ y)
mutabilities_decide = mutabilities_law.lawful.eq_decides

pub rawnesses_decide : (x y : Rawness) → Decides (rawnesses.ghosts.eq x y) (x ≡ y)
rawnesses_decide = rawnesses_law.lawful.eq_decides

pub ref_types_decide : (x y : RefType) → Decides (ref_types.ghosts.eq x y) (x ≡ y)
ref_types_decide = ref_types_law.lawful.eq_decides

pub array_types_decide : (x y : ArrayType) → Decides (array_types.ghosts.eq x y) (x ≡ y)
array_types_decide = array_types_law.lawful.eq_decides

pub fn_types_decide : (x y : FnType) → Decides (fn_types.ghosts.eq x y) (x ≡ y)
fn_types_decide = fn_types_law.lawful.eq_decides

pub arrays_decide : (x y : Array) → Decides (arrays.ghosts.eq x y) (x ≡ y)
arrays_decide = arrays_law.lawful.eq_decides

pub offsets_decide : (x y : OffsetOf) → Decides (offsets.ghosts.eq x y) (x ≡ y)
offsets_decide = offsets_law.lawful.eq_decides

pub spreads_decide : (x y : RecordSpread) → Decides (spreads.ghosts.eq x y) (x ≡ y)
spreads_decide = spreads_law.lawful.eq_decides

pub unsafes_decide : (x y : Unsafe) → Decides (unsafes.ghosts.eq x y) (x ≡ y)
unsafes_decide = unsafes_law.lawful.eq_decides

pub loop_sources_decide : (x y : LoopSource) → Decides (loop_sources.ghosts.eq x y) (x ≡ y)
loop_sources_decide = loop_sources_law.lawful.eq_decides

pub closure_kinds_decide : (x y : ClosureKind) → Decides (closure_kinds.ghosts.eq x y) (x ≡ y)
closure_kinds_decide = closure_kinds_law.lawful.eq_decides

pub captures_decide : (x y : CaptureBy) → Decides (captures.ghosts.eq x y) (x ≡ y)
captures_decide = captures_law.lawful.eq_decides

pub ranges_decide : (x y : RangeOp) → Decides (ranges.ghosts.eq x y) (x ≡ y)
ranges_decide = ranges_law.lawful.eq_decides

pub unary_ops_decide : (x y : UnaryOp) → Decides (unary_ops.ghosts.eq x y) (x ≡ y)
unary_ops_decide = unary_ops_law.lawful.eq_decides

pub params_decide : (x y : TypeOrConstParamId) → Decides (params.ghosts.eq x y) (x ≡ y)
params_decide = params_law.lawful.eq_decides

pub statements_decide : (xs ys : List Statement) → Decides (pointwise statements.ghosts.eq xs ys) (xs ≡ ys)
statements_decide = pointwise_decides statements_law.lawful.eq_decides

pub arms_decide : (xs ys : List MatchArm) → Decides (pointwise arms.ghosts.eq xs ys) (xs ≡ ys)
arms_decide = pointwise_decides arms_law.lawful.eq_decides

pub fields_decide : (xs ys : List RecordLitField) → Decides (pointwise fields.ghosts.eq xs ys) (xs ≡ ys)
fields_decide = pointwise_decides fields_law.lawful.eq_decides

pub field_pats_decide : (xs ys : List RecordFieldPat)
    → Decides (pointwise field_pats.ghosts.eq xs ys) (xs ≡ ys)
field_pats_decide = pointwise_decides field_pats_law.lawful.eq_decides

pub bounds_decide : (xs ys : List TypeBound) → Decides (pointwise bounds.ghosts.eq xs ys) (xs ≡ ys)
bounds_decide = pointwise_decides bounds_law.lawful.eq_decides

pub operators_decide : (x y : Option BinaryOp) → Decides (option_eq operators.ghosts.eq x y) (x ≡ y)
operators_decide = options_decide operators_law.lawful.eq_decides

pub given_args_decide : (x y : Option GenericArgs) → Decides (option_eq given_args.ghosts.eq x y) (x ≡ y)
given_args_decide = options_decide given_args_law.lawful.eq_decides

pub ruleset small_types = (
  exact,
  paths_decide,
  literals_decide,
  mutabilities_decide,
  rawnesses_decide,
  ref_types_decide,
  array_types_decide,
  fn_types_decide,
  arrays_decide,
  offsets_decide,
  spreads_decide,
  unsafes_decide,
  loop_sources_decide,
  closure_kinds_decide,
  captures_decide,
  ranges_decide,
  unary_ops_decide,
  params_decide,
  statements_decide,
  arms_decide,
  fields_decide,
  field_pats_decide,
  bounds_decide,
  operators_decide,
  given_args_decide,
)
