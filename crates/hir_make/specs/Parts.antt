-- What the helpers make of their parts.
use Rattle.hir_make.specs.Prelude.{ℕ, List, Option, Some, None, false, map, length, replicate, Name, Edition2015, ExprId, PatId, TypeRefId, Binding, Label, BindingAnnotation, Unannotated, Expr, Statement, Mutability, RefType, finish_sources, ExpressionStoreSourceMap, Param, empty, FieldData, FieldsShape, FunctionParts, StructParts, VariantParts, BodyContents, body_of, building_of, contents_of, nodes_of, has_exprs, and_root, ExpressionStoreBuilder}
use Rattle.hir_base.specs.declared.abi.ExternAbi.TheVariants as abi
use Rattle.hir_base.specs.declared.hygiene.SyntaxContext.TheVariants as context
use Rattle.hir_node.specs.declared.expr.Expr.TheVariants as expr
use Rattle.hir_node.specs.declared.expr_types.ClosureKind.TheVariants as kind
use Rattle.hir_node.specs.declared.expr_types.CaptureBy.TheVariants as capture
use Rattle.hir_node.specs.declared.expr_types.Unsafe.TheVariants as unsafety

-- the binding of this name and this mode (`mut`, `ref` or neither), without hygiene
abbrev pub binding_named : Name → BindingAnnotation → Binding
binding_named name mode = record {
  name = name;
  mode = mode;
  problems = None;
  hygiene = context.Root Edition2015;
}

-- the binding of this name, without `mut`, `ref` or hygiene
abbrev pub plain_binding : Name → Binding
plain_binding name = binding_named name Unannotated

-- the label of this name
abbrev pub label_named : Name → Label
label_named name = record { name = name }

-- `&target` or `&mut target`
abbrev pub reference_to : TypeRefId → Mutability → RefType
reference_to target mutability = record { ty = target; lifetime = None; mutability = mutability }

-- no type for each argument
abbrev pub no_types : List PatId → List (Option TypeRefId)
no_types args = replicate (length args) None

-- `|args| body`
abbrev pub closure_of : List PatId → ExprId → Expr
closure_of args body = expr.Closure args (no_types args) None body kind.Closure capture.Ref

-- a block of these statements and this tail, without a label, `unsafe` and items
abbrev pub plain_block : List Statement → Option ExprId → Expr
plain_block statements tail = expr.Block None statements tail None unsafety.No

-- `{ statements tail }`
abbrev pub block_of : List Statement → ExprId → Expr
block_of statements tail = plain_block statements (Some tail)

-- the parameters that are these patterns, as the user wrote them
abbrev pub params_of : List PatId → List (Param PatId)
params_of pats = map (λ pat. record { formal = pat; user_written = pat }) pats

-- the builder with one root more
abbrev pub with_root : ExpressionStoreBuilder → ExprId → ExpressionStoreBuilder
with_root b value = record b { roots = and_root (building_of b) value }

-- the body of a finished builder, with these parameters
abbrev pub body_with : ExpressionStoreBuilder → List PatId → BodyContents
body_with b pats = body_of (contents_of (building_of b)) (params_of pats) None

-- `fn name(params) -> ret_type` over the store of a finished builder
abbrev pub function_of :
    ExpressionStoreBuilder → List ℕ → List TypeRefId → Option TypeRefId → FunctionParts
function_of b name params ret_type = record {
  name = name;
  generic_params = empty;
  store = contents_of (building_of b);
  params = params;
  ret_type = ret_type;
  abi = abi.Rust;
  is_const = false;
  is_async = false;
  is_unsafe = false;
  is_explicit_safe = false;
  legacy_const_indices = None;
}

-- `struct name` over the store of a finished builder
abbrev pub struct_of : ExpressionStoreBuilder → List ℕ → FieldsShape → StructParts
struct_of b name shape = record {
  name = name;
  generic_params = empty;
  store = contents_of (building_of b);
  is_fundamental = false;
  shape = shape;
}

-- the fields over the store of a finished builder
abbrev pub fields_of : ExpressionStoreBuilder → FieldsShape → List FieldData → VariantParts
fields_of b shape fields = record { shape = shape; fields = fields; store = contents_of (building_of b) }

-- the source map of a finished builder
abbrev pub sources_of : ExpressionStoreBuilder → ExpressionStoreSourceMap
sources_of b = finish_sources (has_exprs (nodes_of b)) b.source_map
