-- Which calls are made with an expression as an anonymous constant: of a run of the finder, and of the lists that have no constant.
use Rattle.std.proofs.Common.{◌≡◌, ℕ, Bool, true, false, List, [], ◌∷◌, ◌++◌, Option, None, refl, ap, sym, ◌∙◌}
use Rattle.std.specs.Prelude.{Some, ◌==◌, ◌||◌}
use Rattle.std.specs.List.{list_any, flat_map}
use Rattle.std.proofs.lemmas.Bool.{or_from}
use Rattle.std.proofs.Math.Bool.{or-false}
use Rattle.hir_node.specs.Runs.{Runs, no_call, a_call}
use Rattle.hir_node.specs.ChildCalls.{Call, OnExpr, OnAnonConst, OnPat, OnType, OnLifetime, e, p, t, l, opt, use_calls, bound_calls, spread_calls, arm_calls, statement_calls, args_calls, path_calls, expr_calls, pat_calls, type_calls}
use Rattle.hir_node.specs.declared.expr_types.MatchArm.{MatchArm}
use Rattle.hir_node.specs.declared.expr_types.Statement.{Statement}
use Rattle.hir_node.specs.declared.expr_types.Statement.TheVariants as statement
use Rattle.hir_node.specs.declared.expr_types.RecordSpread.{RecordSpread}
use Rattle.hir_node.specs.declared.expr_types.RecordSpread.TheVariants as spread
use Rattle.hir_path.specs.declared.bound.TypeBound.{TypeBound}
use Rattle.hir_path.specs.declared.bound.TypeBound.TheVariants as bound
use Rattle.hir_path.specs.declared.bound.UseArgRef.{UseArgRef}
use Rattle.hir_path.specs.declared.bound.UseArgRef.TheVariants as use_arg
use Rattle.hir_node.specs.declared.expr_types.Array.TheVariants as array
use Rattle.hir_node.specs.declared.expr.Expr.{Expr}
use Rattle.hir_node.specs.declared.expr.Expr.TheVariants as expr
use Rattle.hir_node.specs.declared.pat.Pat.{Pat}
use Rattle.hir_node.specs.declared.pat.Pat.TheVariants as pat
use Rattle.hir_node.specs.declared.type_ref.TypeRef.{TypeRef}
use Rattle.hir_node.specs.declared.type_ref.TypeRef.TheVariants as type
use Rattle.hir_store_core.specs.declared.anon_consts.ConstFinder.{ConstFinder}
use Rattle.hir_store_core.specs.JumpTargets.{is_const_call, has_const}
use Rattle.hir_store_core.specs.internal.AnonConsts.{expr_has_const, pat_has_const, type_has_const}

-- the calls are made with no anonymous constant
abbrev pub NoConst : List Call → Type 0
NoConst calls = (id : ℕ) → list_any (is_const_call id) calls ≡ false

or_assoc : (x y z : Bool) → ((x || y) || z) ≡ (x || (y || z))
or_assoc true y z = refl
or_assoc false y z = refl

pub any_append : (id : ℕ) (xs ys : List Call) → list_any (is_const_call id) (xs ++ ys) ≡ (list_any (is_const_call id) xs || list_any (is_const_call id) ys)
any_append id [] ys = refl
any_append id (x ∷ xs) ys =
    ap (λ b. is_const_call id x || b) (any_append id xs ys) ∙ sym (or_assoc (is_const_call id x) (list_any (is_const_call id) xs) (list_any (is_const_call id) ys))

pub none_append : (xs ys : List Call) → NoConst xs → NoConst ys → NoConst (xs ++ ys)
none_append xs ys f g id = any_append id xs ys ∙ or_from _ _ (f id) (g id)

pub none_each : {X : Type 0} (calls : X → List Call) → ((x : X) → NoConst (calls x)) → (xs : List X) → NoConst (flat_map calls xs)
none_each calls f [] id = refl
none_each calls f (x ∷ xs) id = none_append (calls x) (flat_map calls xs) (f x) (none_each calls f xs) id

pub none_opt : {X : Type 0} (calls : X → List Call) → ((x : X) → NoConst (calls x)) → (o : Option X) → NoConst (opt calls o)
none_opt calls f None id = refl
none_opt calls f (Some x) id = f x id

pub none_e : (x : ℕ) → NoConst (e x)
none_e x id = refl

pub none_p : (x : ℕ) → NoConst (p x)
none_p x id = refl

pub none_t : (x : ℕ) → NoConst (t x)
none_t x id = refl

pub none_l : (x : ℕ) → NoConst (l x)
none_l x id = refl

pub none_arm : (arm : MatchArm) → NoConst (arm_calls arm)
none_arm arm = none_append (e arm.expr ++ opt e arm.guard) (p arm.pat) (none_append (e arm.expr) (opt e arm.guard) (none_e arm.expr) (none_opt e none_e arm.guard)) (none_p arm.pat)

pub none_statement : (x : Statement) → NoConst (statement_calls x)
none_statement (statement.Let pat type_ref initializer else_branch) id =
    none_append (opt e initializer ++ opt e else_branch ++ p pat) (opt t type_ref)
    (none_append (opt e initializer ++ opt e else_branch) (p pat)
    (none_append (opt e initializer) (opt e else_branch) (none_opt e none_e initializer) (none_opt e none_e else_branch)) (none_p pat))
    (none_opt t none_t type_ref) id
none_statement (statement.Expr expr has_semi) id = refl
none_statement (statement.Item item) id = refl

none_use : (x : UseArgRef) → NoConst (use_calls x)
none_use (use_arg.Name name) id = refl
none_use (use_arg.Lifetime x) id = refl

pub none_bound : (x : TypeBound) → NoConst (bound_calls x)
none_bound (bound.Path x modifier) id = refl
none_bound (bound.ForLifetime names x) id = refl
none_bound (bound.Lifetime x) id = refl
none_bound (bound.Use args) id = none_each use_calls none_use args id
none_bound bound.Error id = refl

pub none_spread : (x : RecordSpread) → NoConst (spread_calls x)
none_spread spread.None id = refl
none_spread spread.FieldDefaults id = refl
none_spread (spread.Expr x) id = refl

-- after calls without a constant only the others matter
pub any_after : (id : ℕ) (xs ys : List Call) → NoConst xs → list_any (is_const_call id) (xs ++ ys) ≡ list_any (is_const_call id) ys
any_after id xs ys none = any_append id xs ys ∙ rw (none id) refl

-- 1. A run of the finder

abbrev finds : ConstFinder → Call → ConstFinder → Type 0
finds v c w = w ≡ record { expr = v.expr; found = is_const_call v.expr c || v.found }

or_in_turn : (x y z : Bool) → (x || (y || z)) ≡ ((y || x) || z)
or_in_turn true true z = refl
or_in_turn true false z = refl
or_in_turn false true z = refl
or_in_turn false false z = refl

pub run_found : {v w : ConstFinder} {cs : List Call} → Runs finds v cs w → w.found ≡ (has_const cs v.expr || v.found)
run_found no_call = refl
run_found (a_call {u} {v} {w} {c} {cs} s r) =
    let expr = ap (λ (x : ConstFinder). x.expr) s in
    let found = ap (λ (x : ConstFinder). x.found) s in
    run_found r ∙ rw (expr, found) (or_in_turn (has_const cs u.expr) (is_const_call u.expr c) u.found)

-- 2. What a node has

pub expr_const_is : (x : Expr) (id : ℕ) → expr_has_const x id ≡ has_const (expr_calls x) id
expr_const_is (expr.If condition then_branch else_branch) id = sym (none_opt e none_e else_branch id)
expr_const_is (expr.Let pat expr) id = refl
expr_const_is (expr.Block block statements tail label unsafe_) id = sym (none_append (flat_map statement_calls statements) (opt e tail) (none_each statement_calls none_statement statements) (none_opt e none_e tail) id)
expr_const_is (expr.Loop body label source) id = refl
expr_const_is (expr.Call callee args) id = sym (none_each e none_e args id)
expr_const_is (expr.MethodCall receiver method_name args None) id = sym (none_append (flat_map e args) [] (none_each e none_e args) (λ i. refl) id)
expr_const_is (expr.MethodCall receiver method_name args (Some generic_args)) id = sym (any_after id (flat_map e args) (args_calls generic_args) (none_each e none_e args))
expr_const_is (expr.Match expr arms) id = sym (none_each arm_calls none_arm arms id)
expr_const_is (expr.Break expr label) id = sym (none_opt e none_e expr id)
expr_const_is (expr.Return expr) id = sym (none_opt e none_e expr id)
expr_const_is (expr.Yield expr) id = sym (none_opt e none_e expr id)
expr_const_is (expr.Yeet expr) id = sym (none_opt e none_e expr id)
expr_const_is (expr.Become expr) id = refl
expr_const_is (expr.Field expr name) id = refl
expr_const_is (expr.Await expr) id = refl
expr_const_is (expr.Ref expr rawness mutability) id = refl
expr_const_is (expr.UnaryOp expr op) id = refl
expr_const_is (expr.Cast expr type_ref) id = refl
expr_const_is (expr.RecordLit path fields spread) id =
    sym (any_after id (flat_map (λ field. e field.expr) fields ++ spread_calls spread) (path_calls path)
    (none_append (flat_map (λ field. e field.expr) fields) (spread_calls spread) (none_each (λ field. e field.expr) (λ field. none_e field.expr) fields) (none_spread spread)))
expr_const_is (expr.Closure args arg_types ret_type body closure_kind capture_by) id =
    sym (none_append (flat_map p args ++ flat_map (opt t) arg_types) (opt t ret_type)
    (none_append (flat_map p args) (flat_map (opt t) arg_types) (none_each p none_p args) (none_each (opt t) (none_opt t none_t) arg_types)) (none_opt t none_t ret_type) id)
expr_const_is (expr.BinaryOp lhs rhs op) id = refl
expr_const_is (expr.Index base index) id = refl
expr_const_is (expr.Assignment target value) id = refl
expr_const_is (expr.Const const) id = sym (or-false (const == id))
expr_const_is (expr.Array (array.ElementList elements)) id = sym (none_each e none_e elements id)
expr_const_is (expr.Array (array.Repeat initializer repeat)) id = sym (or-false (repeat == id))
expr_const_is (expr.Tuple exprs) id = sym (none_each e none_e exprs id)
expr_const_is (expr.OffsetOf offset) id = refl
expr_const_is (expr.Path path) id = refl
expr_const_is expr.Missing id = refl
expr_const_is (expr.Literal literal) id = refl
expr_const_is expr.Underscore id = refl
expr_const_is (expr.Continue label) id = refl
expr_const_is expr.IncludeBytes id = refl

pub pat_const_is : (x : Pat) (id : ℕ) → pat_has_const x id ≡ has_const (pat_calls x) id
pat_const_is (pat.Range start end range_type) id = sym (none_append (opt e start) (opt e end) (none_opt e none_e start) (none_opt e none_e end) id)
pat_const_is (pat.Lit x) id = refl
pat_const_is (pat.Expr x) id = refl
pat_const_is (pat.Bind x subpat) id = sym (none_opt p none_p subpat id)
pat_const_is (pat.Or args) id = sym (none_each p none_p args id)
pat_const_is (pat.Tuple args ellipsis) id = sym (none_each p none_p args id)
pat_const_is (pat.TupleStruct path args ellipsis) id = sym (any_after id (flat_map p args) (path_calls path) (none_each p none_p args))
pat_const_is (pat.Record ellipsis path args) id = sym (any_after id (flat_map (λ field. p field.pat) args) (path_calls path) (none_each (λ field. p field.pat) (λ field. none_p field.pat) args))
pat_const_is (pat.Slice prefix slice suffix) id =
    sym (none_append (flat_map p prefix ++ opt p slice) (flat_map p suffix)
    (none_append (flat_map p prefix) (opt p slice) (none_each p none_p prefix) (none_opt p none_p slice)) (none_each p none_p suffix) id)
pat_const_is (pat.Ref x mutability) id = refl
pat_const_is (pat.Box inner) id = refl
pat_const_is (pat.Deref inner) id = refl
pat_const_is (pat.Path path) id = refl
pat_const_is pat.Wild id = refl
pat_const_is pat.Missing id = refl
pat_const_is pat.Rest id = refl
pat_const_is pat.NotNull id = refl

pub type_const_is : (x : TypeRef) (id : ℕ) → type_has_const x id ≡ has_const (type_calls x) id
type_const_is (type.Tuple types) id = sym (none_each t none_t types id)
type_const_is (type.RawPtr x mutability) id = refl
type_const_is (type.Slice x) id = refl
type_const_is (type.Reference reference) id = sym (none_opt l none_l reference.lifetime id)
type_const_is (type.Array array) id = sym (or-false (array.len.expr == id))
type_const_is (type.Fn function) id = sym (none_each (λ entry. t entry.1) (λ entry. none_t entry.1) function.params id)
type_const_is (type.ImplTrait bounds) id = sym (none_each bound_calls none_bound bounds id)
type_const_is (type.DynTrait bounds) id = sym (none_each bound_calls none_bound bounds id)
type_const_is (type.PatternType x pat) id = refl
type_const_is (type.Path path) id = refl
type_const_is type.Never id = refl
type_const_is type.Placeholder id = refl
type_const_is (type.TypeParam param) id = refl
type_const_is type.Error id = refl
