-- Defines the parts of a node that are tested: its child calls, the other ids that it names, and what it
-- holds, which is a path, generic arguments and bounds.
use Rattle.std.specs.Prelude.{◌&&◌, ◌∷◌, ◌++◌}
use Rattle.hir_validate.specs.Prelude.{Bool, true, false, eqb, nat_lt, List, [], Option, Some, None, length, slice_get, flat_map, is_some, option_and_then, list_all, TypeRefId, BindingId, LabelId, TypeBound, TypeRef, GenericArg, GenericArgs, GenericArgs-F, fold-GenericArgs, AssociatedTypeBinding-F, Path, Pat, Expr, Call, expr_calls, pat_calls, type_calls, expr_labels, pat_bindings}
use Rattle.hir_path.specs.declared.bound.TypeBound.TheVariants as bound
use Rattle.hir_node.specs.declared.type_ref.TypeRef.TheVariants as type
use Rattle.hir_path.specs.declared.path.Path.TheVariants as path
use Rattle.hir_node.specs.declared.pat.Pat.TheVariants as pat
use Rattle.hir_node.specs.declared.expr.Expr.TheVariants as expr
use Rattle.hir_validate.specs.declared.sizes.Sizes.{Sizes}
use Rattle.hir_validate.specs.Sizes.{is_in_range}

-- the parts that a node holds: a path, generic arguments that aren't in a path, bounds
pub record HeldParts : Type 0 where
  pub path : Option Path
  pub args : Option GenericArgs
  pub bounds : List TypeBound

abbrev pub nothing : HeldParts
nothing = record { path = None; args = None; bounds = [] }

abbrev pub a_path : Path → HeldParts
a_path x = record { path = Some x; args = None; bounds = [] }

abbrev pub some_args : Option GenericArgs → HeldParts
some_args x = record { path = None; args = x; bounds = [] }

abbrev pub some_bounds : List TypeBound → HeldParts
some_bounds x = record { path = None; args = None; bounds = x }

abbrev pub expr_holds : Expr → HeldParts
expr_holds (expr.Path path) = a_path path
expr_holds (expr.RecordLit path fields spread) = a_path path
expr_holds (expr.MethodCall receiver method_name args generic_args) = some_args generic_args
expr_holds expr.Missing = nothing
expr_holds expr.Underscore = nothing
expr_holds expr.IncludeBytes = nothing
expr_holds (expr.Literal literal) = nothing
expr_holds (expr.Array array) = nothing
expr_holds (expr.OffsetOf offset) = nothing
expr_holds (expr.Const id) = nothing
expr_holds (expr.If condition then_branch else_branch) = nothing
expr_holds (expr.Let pat expr) = nothing
expr_holds (expr.Block id statements tail label unsafe_) = nothing
expr_holds (expr.Loop body label source) = nothing
expr_holds (expr.Call callee args) = nothing
expr_holds (expr.Match expr arms) = nothing
expr_holds (expr.Continue label) = nothing
expr_holds (expr.Break expr label) = nothing
expr_holds (expr.Return expr) = nothing
expr_holds (expr.Yield expr) = nothing
expr_holds (expr.Yeet expr) = nothing
expr_holds (expr.Become expr) = nothing
expr_holds (expr.Await expr) = nothing
expr_holds (expr.Field expr name) = nothing
expr_holds (expr.Cast expr type_ref) = nothing
expr_holds (expr.Ref expr rawness mutability) = nothing
expr_holds (expr.UnaryOp expr op) = nothing
expr_holds (expr.BinaryOp lhs rhs op) = nothing
expr_holds (expr.Assignment target value) = nothing
expr_holds (expr.Index base index) = nothing
expr_holds (expr.Closure args arg_types ret_type body closure_kind capture_by) = nothing
expr_holds (expr.Tuple exprs) = nothing

abbrev pub pat_holds : Pat → HeldParts
pat_holds (pat.Path path) = a_path path
pat_holds (pat.TupleStruct path args ellipsis) = a_path path
pat_holds (pat.Record ellipsis path args) = a_path path
pat_holds pat.Missing = nothing
pat_holds pat.Rest = nothing
pat_holds pat.Wild = nothing
pat_holds pat.NotNull = nothing
pat_holds (pat.Tuple args ellipsis) = nothing
pat_holds (pat.Or args) = nothing
pat_holds (pat.Range start end range_type) = nothing
pat_holds (pat.Slice prefix slice suffix) = nothing
pat_holds (pat.Lit id) = nothing
pat_holds (pat.Expr id) = nothing
pat_holds (pat.Bind id subpat) = nothing
pat_holds (pat.Ref pat mutability) = nothing
pat_holds (pat.Box inner) = nothing
pat_holds (pat.Deref inner) = nothing

abbrev pub type_holds : TypeRef → HeldParts
type_holds (type.Path path) = a_path path
type_holds (type.ImplTrait bounds) = some_bounds bounds
type_holds (type.DynTrait bounds) = some_bounds bounds
type_holds type.Never = nothing
type_holds type.Placeholder = nothing
type_holds type.Error = nothing
type_holds (type.Tuple types) = nothing
type_holds (type.RawPtr id mutability) = nothing
type_holds (type.Reference reference) = nothing
type_holds (type.Array array) = nothing
type_holds (type.Slice id) = nothing
type_holds (type.Fn function) = nothing
type_holds (type.TypeParam param) = nothing
type_holds (type.PatternType id pat) = nothing

-- whether a list isn't empty; the last entry of a function type's list is the return type
abbrev pub some_entry : {X : Type 0} → List X → Bool
some_entry [] = false
some_entry (x ∷ xs) = true

abbrev pub type_returns : TypeRef → Bool
type_returns (type.Fn function) = some_entry function.params
type_returns type.Never = true
type_returns type.Placeholder = true
type_returns type.Error = true
type_returns (type.Tuple types) = true
type_returns (type.Path path) = true
type_returns (type.RawPtr id mutability) = true
type_returns (type.Reference reference) = true
type_returns (type.Array array) = true
type_returns (type.Slice id) = true
type_returns (type.ImplTrait bounds) = true
type_returns (type.DynTrait bounds) = true
type_returns (type.TypeParam param) = true
type_returns (type.PatternType id pat) = true

-- the parts of a node that are tested
pub record TestedParts : Type 0 where
  pub calls : List Call
  pub bindings : List BindingId
  pub labels : List LabelId
  pub held : HeldParts
  pub returns : Bool

abbrev pub tested_expr : Expr → TestedParts
tested_expr x = record {
  calls = expr_calls x;
  bindings = [];
  labels = expr_labels x;
  held = expr_holds x;
  returns = true;
}

abbrev pub tested_pat : Pat → TestedParts
tested_pat x = record {
  calls = pat_calls x;
  bindings = pat_bindings x;
  labels = [];
  held = pat_holds x;
  returns = true;
}

abbrev pub tested_type : TypeRef → TestedParts
tested_type x = record {
  calls = type_calls x;
  bindings = [];
  labels = [];
  held = type_holds x;
  returns = type_returns x;
}

-- the types that bounds name as paths
abbrev pub bound_paths : TypeBound → List TypeRefId
bound_paths (bound.Path id modifier) = id ∷ []
bound_paths (bound.ForLifetime names id) = id ∷ []
bound_paths (bound.Lifetime id) = []
bound_paths (bound.Use args) = []
bound_paths bound.Error = []

abbrev pub all_of : {X A : Type 0} → (X → List A) → Option X → List A
all_of list None = []
all_of list (Some x) = list x

-- the types that generic arguments, with those nested in their bindings, name as paths: in the bounds of
-- bindings
abbrev pub binding_paths_layer : AssociatedTypeBinding-F (List TypeRefId) (List TypeRefId) → List TypeRefId
binding_paths_layer b = all_of (λ ids. ids) b.args ++ flat_map bound_paths b.bounds

abbrev pub args_paths_layer : GenericArgs-F (List TypeRefId) (List TypeRefId) → List TypeRefId
args_paths_layer x = flat_map (λ ids. ids) x.bindings

abbrev pub args_paths : GenericArgs → List TypeRefId
args_paths = fold-GenericArgs (List TypeRefId) (List TypeRefId) binding_paths_layer args_paths_layer

-- whether a list of arguments isn't empty, if it begins with a self type
abbrev pub self_given : Bool → List GenericArg → Bool
self_given false args = true
self_given true args = some_entry args

abbrev pub option_all : {X : Type 0} → (X → Bool) → Option X → Bool
option_all holds None = true
option_all holds (Some x) = holds x

-- whether each list that begins with a self type isn't empty, in generic arguments and in those nested in
-- their bindings
abbrev pub binding_self_layer : AssociatedTypeBinding-F Bool Bool → Bool
binding_self_layer b = option_all (λ given. given) b.args

abbrev pub args_self_layer : GenericArgs-F Bool Bool → Bool
args_self_layer x = self_given x.has_self_type x.args && list_all (λ given. given) x.bindings

abbrev pub args_give_self : GenericArgs → Bool
args_give_self = fold-GenericArgs Bool Bool binding_self_layer args_self_layer

-- the types that a path names as paths, in the generic arguments of its segments
abbrev pub path_paths : Path → List TypeRefId
path_paths (path.BarePath mod_path) = []
path_paths (path.Normal normal) = flat_map (all_of args_paths) normal.generic_args
path_paths (path.LangItem target name) = []

-- whether each list of generic arguments in a path that begins with a self type isn't empty
abbrev pub path_gives_self : Path → Bool
path_gives_self (path.BarePath mod_path) = true
path_gives_self (path.Normal normal) = list_all (option_all args_give_self) normal.generic_args
path_gives_self (path.LangItem target name) = true

-- the types that a node names as paths
abbrev pub held_paths : HeldParts → List TypeRefId
held_paths h = all_of path_paths h.path ++ all_of args_paths h.args ++ flat_map bound_paths h.bounds

-- whether each list of generic arguments that begins with a self type isn't empty
abbrev pub gives_self : HeldParts → Bool
gives_self h = option_all path_gives_self h.path && option_all args_give_self h.args

-- whether a `Normal` path has one list for each segment
abbrev pub one_list_each : Path → Bool
one_list_each (path.BarePath mod_path) = true
one_list_each (path.Normal normal) = eqb (length normal.generic_args) (length normal.mod_path.segments)
one_list_each (path.LangItem target name) = true

abbrev pub lists_fit : HeldParts → Bool
lists_fit h = option_all one_list_each h.path

-- the path that a type is
abbrev pub path_of : TypeRef → Option Path
path_of (type.Path path) = Some path
path_of type.Never = None
path_of type.Placeholder = None
path_of type.Error = None
path_of (type.Tuple types) = None
path_of (type.RawPtr id mutability) = None
path_of (type.Reference reference) = None
path_of (type.Array array) = None
path_of (type.Slice id) = None
path_of (type.Fn function) = None
path_of (type.ImplTrait bounds) = None
path_of (type.DynTrait bounds) = None
path_of (type.TypeParam param) = None
path_of (type.PatternType id pat) = None

abbrev pub path_at : List TypeRef → TypeRefId → Option Path
path_at types id = option_and_then path_of (slice_get types id)

abbrev pub is_path_at : List TypeRef → TypeRefId → Bool
is_path_at types id = is_some (path_at types id)

-- whether each type that is named as a path is one
abbrev pub names_paths : List TypeRef → HeldParts → Bool
names_paths types h = list_all (is_path_at types) (held_paths h)

-- whether each id that is named is in range
abbrev pub ids_in_range : Sizes → TestedParts → Bool
ids_in_range sizes x = list_all (is_in_range sizes) x.calls
    && list_all (λ id. nat_lt id sizes.bindings) x.bindings
    && list_all (λ id. nat_lt id sizes.labels) x.labels
