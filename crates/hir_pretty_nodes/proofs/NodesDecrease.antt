-- What is printed inside an expression, a pattern or a type is among its child calls, or stands under one of
-- them.
use Rattle.std.proofs.Common.{ℕ, zero, suc, Bool, true, false, List, [], ◌∷◌, ◌++◌, map, codes, Option, Some, None, sym, ap, ◌∙◌}
use Rattle.std.proofs.Common.{subst, slice_get, Result, Ok, Err, flat_map, option_to_list, rules, arith}
use Rattle.std.proofs.lemmas.List.Concat.{flat_map-append}
use Rattle.hir_base.specs.OpTexts.{range_text}
use Rattle.hir_base.specs.declared.{abi.ExternAbi.ExternAbi, mod_path.PathKind.PathKind, defs.LangItemTarget.LangItemTarget}
use Rattle.hir_base.specs.declared.prec.ExprPrecedence.TheVariants.{Jump, Shift}
use Rattle.hir_base.specs.declared.abi.ExternAbi.TheVariants as abi
use Rattle.hir_base.specs.declared.mod_path.PathKind.TheVariants as kind
use Rattle.hir_base.specs.declared.defs.LangItemTarget.TheVariants as target
use Rattle.hir_base.specs.declared.defs.NamedDef.TheVariants as named
use Rattle.hir_path.specs.declared.{path.GenericArgs.GenericArgs, path.Path.Path}
use Rattle.hir_path.specs.declared.path.Path.TheVariants as path
use Rattle.hir_node.specs.ChildCalls.{args_calls, path_calls, spread_calls, array_calls, arm_calls, statement_calls, expr_calls, pat_calls, type_calls}
use Rattle.hir_node.specs.declared.{expr_types.RecordSpread.RecordSpread, expr_types.Unsafe.Unsafe}
use Rattle.hir_node.specs.declared.{expr_types.ClosureKind.ClosureKind, expr_types.Array.Array, expr_types.MatchArm.MatchArm}
use Rattle.hir_node.specs.declared.{expr_types.RecordLitField.RecordLitField, expr_types.Statement.Statement}
use Rattle.hir_node.specs.declared.{literal.Literal.Literal, expr.Expr.Expr, pat.RecordFieldPat.RecordFieldPat, pat.Pat.Pat}
use Rattle.hir_node.specs.declared.{type_ref.TypeRef.TypeRef, binding.Label.Label}
use Rattle.hir_node.specs.{declared.binding.BindingAnnotation.BindingAnnotation}
use Rattle.hir_node.specs.ChildCalls as calls
use Rattle.hir_node.specs.declared.binding.BindingAnnotation.TheVariants as annotation
use Rattle.hir_node.specs.declared.expr_types.RecordSpread.TheVariants as spread
use Rattle.hir_node.specs.declared.expr_types.Unsafe.TheVariants as unsafety
use Rattle.hir_node.specs.declared.expr_types.ClosureKind.TheVariants as closure
use Rattle.hir_node.specs.declared.expr_types.Array.TheVariants as array
use Rattle.hir_node.specs.declared.expr_types.Statement.TheVariants as statement
use Rattle.hir_node.specs.declared.literal.Literal.TheVariants as literal
use Rattle.hir_node.specs.declared.expr.Expr.TheVariants as expr
use Rattle.hir_node.specs.declared.pat.Pat.TheVariants as pat
use Rattle.hir_node.specs.declared.type_ref.TypeRef.TheVariants as type
use Rattle.hir_pretty_nodes.specs.Prelude.{NodeId, Missing, PrintEnv, Doc, text, sp, br, into, out, e, under, p, t, opt, when}
use Rattle.hir_pretty_nodes.specs.Prelude.{join, comma_joined, name_docs, label_docs, annotation_docs, binding_docs, of_binding}
use Rattle.hir_pretty_nodes.specs.Prelude.{found_name, target_docs, supers, kind_docs, colons_first, segments_from, start_docs}
use Rattle.hir_pretty_nodes.specs.Prelude.{turbofish, args_docs, path_docs, literal_docs, label_before, to_label, operand}
use Rattle.hir_pretty_nodes.specs.Prelude.{each_line, in_lines, arguments, arm_docs, field_docs, spread_docs, statement_docs}
use Rattle.hir_pretty_nodes.specs.Prelude.{unsafe_docs, inside_block, params, header, coroutine_body, of_coroutine, printed_body}
use Rattle.hir_pretty_nodes.specs.Prelude.{array_docs, expr_docs, with_rest, in_parentheses, field_pattern, after_last}
use Rattle.hir_pretty_nodes.specs.Prelude.{field_patterns, pat_docs, type_param_docs, extern_docs, varargs_docs, all_but_last}
use Rattle.hir_pretty_nodes.specs.Prelude.{last, signature_docs, type_docs, AllNodes}
use Rattle.hir_node.specs.declared.node_id.NodeId.TheVariants as node
use Rattle.hir_validate.specs.Nodes.{calls_of}
use Rattle.hir_pretty_layout.specs.Literals.{string_literal, char_literal, bytes_literal, c_string_literal}
use Rattle.hir_pretty_nodes.proofs.StepLemmas.{nodes_append}
use Rattle.hir_pretty_nodes.proofs.DecreaseLemmas.{AllCalls, AllLists, first_calls, last_calls, each_falls, map_falls, opt_falls}
use Rattle.hir_pretty_nodes.proofs.DecreaseLemmas.{joined_falls, lists_append, lists_take, lists_drop, name_falls, names_fall}
use Rattle.hir_pretty_nodes.proofs.DecreaseLemmas.{puts_fall, none_falls, lifetime_falls, for_falls, bounds_fall}
use Rattle.hir_pretty_nodes.proofs.DecreaseLemmas.{generic_args_fall}
use Rattle.std.proofs.lemmas.Grind.{common_steps}

when_falls : (P : NodeId → Type 0) (b : Bool) (is : List Doc) → AllNodes P is → AllNodes P (when b is)
when_falls P true is a = a
when_falls P false is a = tt

module _ (P : NodeId → Type 0) (s : PrintEnv) where
  -- paths
  found_falls : (default : List ℕ) (found : Result (Option (List ℕ)) Missing) → AllNodes P (found_name default found)
  found_falls default (Ok (Some name)) = tt
  found_falls default (Ok None) = tt
  found_falls default (Err missing) = tt

  target_falls : (x : LangItemTarget) → AllNodes P (target_docs s x)
  target_falls (target.ImplId id) = tt
  target_falls (target.EnumId id) = found_falls (codes "<missing>") (s.tables.name (named.EnumId id))
  target_falls (target.FunctionId id) = found_falls (codes "<missing>") (s.tables.name (named.FunctionId id))
  target_falls (target.StaticId id) = found_falls (codes "<missing>") (s.tables.name (named.StaticId id))
  target_falls (target.StructId id) = found_falls (codes "<missing>") (s.tables.name (named.StructId id))
  target_falls (target.UnionId id) = found_falls (codes "<missing>") (s.tables.name (named.UnionId id))
  target_falls (target.TypeAliasId id) = found_falls (codes "<missing>") (s.tables.name (named.TypeAliasId id))
  target_falls (target.TraitId id) = found_falls (codes "<missing>") (s.tables.name (named.TraitId id))
  target_falls (target.EnumVariantId id) = found_falls (codes "<missing>") (s.tables.name (named.EnumVariantId id))
  target_falls (target.ConstId id) = found_falls (codes "<missing>") (s.tables.name (named.ConstId id))
  target_falls (target.MacroId id) = found_falls (codes "<missing>") (s.tables.name (named.MacroId id))

  supers_fall : (n : ℕ) → AllNodes P (supers n)
  supers_fall zero = tt
  supers_fall (suc zero) = tt
  supers_fall (suc (suc n)) = supers_fall (suc n)

  kind_falls : (k : PathKind) → AllNodes P (kind_docs s k)
  kind_falls kind.Plain = tt
  kind_falls (kind.Super n) = supers_fall n
  kind_falls kind.Crate = tt
  kind_falls kind.Abs = tt
  kind_falls (kind.DollarCrate id) = found_falls (codes "$crate") (s.tables.crate_name id)

  abbrev fish : Option GenericArgs → List Doc
  fish args = opt (λ a. turbofish (args_docs s a)) args

  segments_fall : (after : Bool) (names : List (List ℕ)) (lists : List (Option GenericArgs))
      → AllCalls P (flat_map (calls.opt args_calls) lists) → AllNodes P (segments_from s after names lists)
  segments_fall after [] lists a = tt
  segments_fall after (name ∷ names) [] a = search (rules, nodes_append, when_falls, name_falls, segments_fall true names [] tt)
  segments_fall after (name ∷ names) (args ∷ lists) a =
      let colons = when after (text (codes "::")) in
      let here = calls.opt args_calls args in
      let rest = flat_map (calls.opt args_calls) lists in
      nodes_append P ((colons ++ name_docs s name) ++ fish args) (segments_from s true names lists)
      (nodes_append P (colons ++ name_docs s name) (fish args) (nodes_append P colons (name_docs s name)
      (when_falls P after (text (codes "::")) tt) (name_falls P s name)) (generic_args_fall P s args (first_calls P here rest a)))
      (segments_fall true names lists (last_calls P here rest a))

  start_falls : (anchor : Option ℕ) (k : PathKind) → AllCalls P (calls.opt calls.t anchor) → AllNodes P (start_docs s anchor k)
  start_falls None k a = kind_falls k
  start_falls (Some anchor) k a = a

  pub path_falls : (x : Path) → AllCalls P (path_calls x) → AllNodes P (path_docs s x)
  path_falls (path.BarePath x) a = nodes_append P (kind_docs s x.kind) (segments_from s (colons_first x.kind) x.segments [])
      (kind_falls x.kind) (segments_fall (colons_first x.kind) x.segments [] tt)
  path_falls (path.Normal n) a = search (rules, nodes_append, start_falls, last_calls, segments_fall, first_calls)
  path_falls (path.LangItem x name) a = search (rules, nodes_append, target_falls, none_falls, name_falls)

  -- parts of expressions
  label_falls : (id : ℕ) → AllNodes P (label_docs s id)
  label_falls id = none_falls P (λ (label : Label). name_docs s label.name) (λ label. name_falls P s label.name) (slice_get s.nodes.labels id)

  labelled_falls : (label : Option ℕ) → AllNodes P (label_before s label)
  labelled_falls label = none_falls P (λ id. label_docs s id ++ text (codes ": ")) (λ id. nodes_append P (label_docs s id) (text (codes ": ")) (label_falls id) tt) label

  to_label_falls : (label : Option ℕ) → AllNodes P (to_label s label)
  to_label_falls label = none_falls P (λ id. text (codes " ") ++ label_docs s id) label_falls label

  operand_falls : (x : Option ℕ) → AllCalls P (calls.opt calls.e x) → AllNodes P (operand x)
  operand_falls x a = opt_falls P calls.e (λ id. sp ++ under Jump id) (λ id h. h) x a

  in_lines_fall : (args : List ℕ) → AllCalls P (flat_map calls.e args) → AllNodes P (in_lines args)
  in_lines_fall [] a = tt
  in_lines_fall (arg ∷ args) a = nodes_append P (each_line (arg ∷ args)) out (each_falls P calls.e (λ id. e id ++ text (codes ",") ++ br) (λ id h. h) (arg ∷ args) a) tt

  arguments_fall : (args : List ℕ) → AllCalls P (flat_map calls.e args) → AllNodes P (arguments args)
  arguments_fall args a = nodes_append P (in_lines args) (text (codes ")")) (in_lines_fall args a) tt

  parts_of_arm_fall : (pat : ℕ) (guard : Option ℕ) (x : ℕ) → AllCalls P (calls.e x ++ calls.opt calls.e guard ++ calls.p pat)
      → AllNodes P (p pat ++ opt (λ id. text (codes " if ") ++ e id) guard ++ text (codes " => ") ++ e x ++ text (codes ",") ++ br)
  parts_of_arm_fall pat None x a = (a.1.0, (a.0, tt))
  parts_of_arm_fall pat (Some guard) x a = (a.1.1.0, (a.1.0, (a.0, tt)))

  arm_falls : (arm : MatchArm) → AllCalls P (arm_calls arm) → AllNodes P (arm_docs arm)
  arm_falls arm a = parts_of_arm_fall arm.pat arm.guard arm.expr a

  field_falls : (field : RecordLitField) → AllCalls P (calls.e field.expr) → AllNodes P (field_docs s field)
  field_falls field a = search (rules, nodes_append, name_falls)

  spread_falls : (x : RecordSpread) → AllCalls P (spread_calls x) → AllNodes P (spread_docs x)
  spread_falls spread.None a = tt
  spread_falls spread.FieldDefaults a = tt
  spread_falls (spread.Expr id) a = a

  element_falls : (xs : List ℕ) → AllCalls P (flat_map calls.e xs) → AllNodes P (flat_map (λ id. e id ++ text (codes ", ")) xs)
  element_falls xs a = each_falls P calls.e (λ id. e id ++ text (codes ", ")) (λ id h. h) xs a

  array_falls : (x : Array) → AllCalls P (array_calls x) → AllNodes P (array_docs x)
  array_falls (array.ElementList []) a = tt
  array_falls (array.ElementList (x ∷ xs)) a = search (rules, nodes_append, element_falls)
  array_falls (array.Repeat initializer repeat) a = a

  statement_falls : (x : Statement) → AllCalls P (statement_calls x) → AllNodes P (statement_docs x)
  statement_falls (statement.Let pat None None None) a = a
  statement_falls (statement.Let pat None None (Some f)) a = (a.1.0, (a.0, tt))
  statement_falls (statement.Let pat None (Some x) None) a = (a.1.0, (a.0, tt))
  statement_falls (statement.Let pat None (Some x) (Some f)) a = (a.1.1.0, (a.0, (a.1.0, tt)))
  statement_falls (statement.Let pat (Some ty) None None) a = a
  statement_falls (statement.Let pat (Some ty) None (Some f)) a = (a.1.0, (a.1.1.0, (a.0, tt)))
  statement_falls (statement.Let pat (Some ty) (Some x) None) a = (a.1.0, (a.1.1.0, (a.0, tt)))
  statement_falls (statement.Let pat (Some ty) (Some x) (Some f)) a = (a.1.1.0, (a.1.1.1.0, (a.0, (a.1.0, tt))))
  statement_falls (statement.Expr x true) a = a
  statement_falls (statement.Expr x false) a = a
  statement_falls (statement.Item x) a = tt

  inside_falls : (xs : List Statement) (tail : Option ℕ) → AllCalls P (flat_map statement_calls xs ++ calls.opt calls.e tail) → AllNodes P (inside_block xs tail)
  inside_falls [] None a = tt
  inside_falls [] (Some tail) a = a
  inside_falls (x ∷ xs) tail a =
      let all = flat_map statement_docs (x ∷ xs) in
      let cs = flat_map statement_calls (x ∷ xs) in
      let ts = calls.opt calls.e tail in
      nodes_append P ((all ++ opt e tail) ++ br) out
      (nodes_append P (all ++ opt e tail) br (nodes_append P all (opt e tail) (each_falls P statement_calls statement_docs
      statement_falls (x ∷ xs) (first_calls P cs ts a)) (opt_falls P calls.e e (λ id h. h) tail (last_calls P cs ts a))) tt) tt

  unsafe_falls : (x : Unsafe) → AllNodes P (unsafe_docs x)
  unsafe_falls unsafety.Yes = tt
  unsafe_falls unsafety.No = tt

  param_falls : (pat : ℕ) (type : Option ℕ) → P (node.Pat pat) → AllCalls P (calls.opt calls.t type) → AllNodes P (p pat ++ opt (λ id. text (codes ": ") ++ t id) type)
  param_falls pat None h a = (h, tt)
  param_falls pat (Some type) h a = (h, a)

  params_fall : (pats : List ℕ) (types : List (Option ℕ)) → AllCalls P (flat_map calls.p pats)
      → AllCalls P (flat_map (calls.opt calls.t) types) → AllLists P (params pats types)
  params_fall [] types a b = tt
  params_fall (pat ∷ pats) [] a b = tt
  params_fall (pat ∷ pats) (type ∷ types) a b =
      let here = calls.opt calls.t type in
      let rest = flat_map (calls.opt calls.t) types in
      (param_falls pat type a.0 (first_calls P here rest b), params_fall pats types a.1 (last_calls P here rest b))

  bars_fall : (xs : List (List Doc)) (ret : Option ℕ) → AllLists P xs → AllCalls P (calls.opt calls.t ret)
      → AllNodes P (text (codes "|") ++ comma_joined xs ++ text (codes "|") ++ opt (λ id. text (codes " -> ") ++ t id) ret ++ sp)
  bars_fall xs ret a b = grind (arith, common_steps, nodes_append, joined_falls P (text (codes ", ")) tt xs a, opt_falls)

  header_falls : (kind : ClosureKind) (xs : List (List Doc)) (ret : Option ℕ) → AllLists P xs → AllCalls P (calls.opt calls.t ret) → AllNodes P (header kind xs ret)
  header_falls (closure.Coroutine kind source) xs ret a b = tt
  header_falls kind xs ret a b = bars_fall xs ret a b

  of_coroutine_falls : (kind : ClosureKind) (self body : ℕ) → P (node.Expr self) → P (node.Expr body) → P (node.Expr (of_coroutine kind self body))
  of_coroutine_falls (closure.Coroutine kind source) self body h k = k
  of_coroutine_falls kind self body h k = h

  coroutine_falls : (found : Option Expr) (self : ℕ) → P (node.Expr self) → AllCalls P (calls.opt expr_calls found) → P (node.Expr (coroutine_body found self))
  coroutine_falls (Some (expr.Closure args arg_types ret_type body kind capture)) self h a = of_coroutine_falls kind self body h a.0
  coroutine_falls found self h a = h

  literal_falls : (x : Literal) → AllNodes P (literal_docs x)
  literal_falls (literal.String text) = puts_fall P (string_literal text)
  literal_falls (literal.ByteString bytes) = puts_fall P (bytes_literal bytes)
  literal_falls (literal.CString bytes) = puts_fall P (c_string_literal bytes)
  literal_falls (literal.Char c) = puts_fall P (char_literal c)
  literal_falls (literal.Int n None) = tt
  literal_falls (literal.Uint n None) = tt
  literal_falls (literal.Float n None) = tt
  literal_falls x = tt

  module _ (closed : (k : NodeId) → P k → AllCalls P (calls_of s.nodes k)) where
    printed_falls : (kind : ClosureKind) (body : ℕ) → P (node.Expr body) → P (node.Expr (printed_body s.nodes kind body))
    printed_falls (closure.CoroutineClosure kind) body h = coroutine_falls (slice_get s.nodes.exprs body) body h (closed (node.Expr body) h)
    printed_falls kind body h = h

    pub expr_falls : (x : Expr) → AllCalls P (expr_calls x) → AllNodes P (expr_docs s x)
    expr_falls expr.Missing a = tt
    expr_falls expr.Underscore a = tt
    expr_falls expr.IncludeBytes a = tt
    expr_falls (expr.OffsetOf o) a = search (rules, nodes_append, joined_falls, names_fall)
    expr_falls (expr.If condition then_branch else_branch) a = (a.0, (a.1.0, opt_falls P calls.e (λ id. text (codes " else ") ++ e id) (λ id h. h) else_branch a.1.1))
    expr_falls (expr.Loop body label source) a = nodes_append P (label_before s label ++ text (codes "loop ")) (e body)
        (nodes_append P (label_before s label) (text (codes "loop ")) (labelled_falls label) tt) a
    expr_falls (expr.Call callee args) a = (a.0, arguments_fall args a.1)
    expr_falls (expr.MethodCall receiver name args generic_args) a =
        let of_args = flat_map calls.e args in
        let of_generics = calls.opt args_calls generic_args in
        (a.0, nodes_append P (name_docs s name ++ fish generic_args) (arguments args) (nodes_append P (name_docs s name) (fish generic_args) (name_falls P s name) (generic_args_fall P s generic_args (last_calls P of_args of_generics a.1))) (arguments_fall args (first_calls P of_args of_generics a.1)))
    expr_falls (expr.Match x arms) a =
        let all = flat_map arm_docs arms in
        let brace = text (codes "}") in (
          a.0,
          nodes_append P ((all ++ out) ++ brace) br (nodes_append P (all ++ out) brace
              (nodes_append P all out (each_falls P arm_calls arm_docs arm_falls arms a.1) tt) tt) tt,
        )
    expr_falls (expr.Continue label) a = to_label_falls label
    expr_falls (expr.Break x label) a = nodes_append P (to_label s label) (operand x) (to_label_falls label) (operand_falls x a)
    expr_falls (expr.Return x) a = operand_falls x a
    expr_falls (expr.Yield x) a = operand_falls x a
    expr_falls (expr.Yeet x) a = operand_falls x a
    expr_falls (expr.RecordLit path fields spread) a =
        let head = (path_docs s path ++ text (codes "{")) ++ into in
        let all = flat_map (field_docs s) fields in
        let of_fields = flat_map (λ (field : RecordLitField). calls.e field.expr) fields in
        let of_spread = spread_calls spread in
        let rest = first_calls P (of_fields ++ of_spread) (path_calls path) a in
        nodes_append P (((head ++ all) ++ spread_docs spread) ++ out) (text (codes "}"))
        (nodes_append P ((head ++ all) ++ spread_docs spread) out
        (nodes_append P (head ++ all) (spread_docs spread)
        (nodes_append P head all
        (nodes_append P (path_docs s path ++ text (codes "{")) into (nodes_append P (path_docs s path) (text (codes "{"))
        (path_falls path (last_calls P (of_fields ++ of_spread) (path_calls path) a)) tt) tt)
        (each_falls P (λ (field : RecordLitField). calls.e field.expr) (field_docs s) field_falls fields (first_calls P of_fields of_spread rest)))
        (spread_falls spread (last_calls P of_fields of_spread rest))) tt) tt
    expr_falls (expr.Field x name) a = (a.0, name_falls P s name)
    expr_falls (expr.BinaryOp lhs rhs None) a = a
    expr_falls (expr.Tuple xs) a = nodes_append P (flat_map (λ id. e id ++ text (codes ", ")) xs) (text (codes ")")) (element_falls xs a) tt
    expr_falls (expr.Array x) a = array_falls x a
    expr_falls (expr.Const id) a = tt
    expr_falls (expr.Block id statements tail label unsafe_) a = search (rules, nodes_append, labelled_falls, unsafe_falls, inside_falls)
    expr_falls (expr.Closure args arg_types ret_type body kind capture) a =
        search (rules, first_calls, nodes_append, header_falls, params_fall, last_calls, printed_falls)
    expr_falls (expr.Literal x) a = literal_falls x
    expr_falls (expr.Path path) a = path_falls path a
    expr_falls x a = a

  -- patterns
  with_rest_falls : (rest : Option ℕ) (xs : List (List Doc)) → AllLists P xs → AllLists P (with_rest rest xs)
  with_rest_falls None xs a = a
  with_rest_falls (Some n) xs a = search (rules, lists_append, lists_take, lists_drop)

  pats_fall : (xs : List ℕ) → AllCalls P (flat_map calls.p xs) → AllLists P (map p xs)
  pats_fall xs a = map_falls P calls.p p (λ id h. h) xs a

  in_parentheses_fall : (rest : Option ℕ) (args : List ℕ) → AllCalls P (flat_map calls.p args) → AllNodes P (in_parentheses rest args)
  in_parentheses_fall rest args a = search (rules, nodes_append, joined_falls, with_rest_falls, pats_fall)

  field_pattern_falls : (field : RecordFieldPat) → P (node.Pat field.pat) → AllNodes P (field_pattern s field)
  field_pattern_falls field h = search (rules, nodes_append, name_falls, when_falls)

  line_end_falls : (one_line : Bool) → AllNodes P (elim one_line [ true ↦ text (codes " ") | false ↦ text (codes ",") ++ br ])
  line_end_falls true = tt
  line_end_falls false = tt

  after_last_falls : (rest : Bool) → AllNodes P (after_last s rest)
  after_last_falls true = tt
  after_last_falls false = line_end_falls s.one_line

  field_patterns_fall : (rest : Bool) (fields : List RecordFieldPat)
      → AllCalls P (flat_map (λ (field : RecordFieldPat). calls.p field.pat) fields) → AllNodes P (field_patterns s rest fields)
  field_patterns_fall rest [] a = tt
  field_patterns_fall rest (f ∷ []) a = nodes_append P (field_pattern s f) (after_last s rest) (field_pattern_falls f a.0) (after_last_falls rest)
  field_patterns_fall rest (f ∷ g ∷ fs) a = search (rules, nodes_append, field_pattern_falls, field_patterns_fall rest (g ∷ fs) a.1)

  bound_falls : (mode : BindingAnnotation) (docs : List Doc) → AllNodes P docs → AllNodes P (annotation_docs mode ++ docs)
  bound_falls annotation.Unannotated docs h = h
  bound_falls annotation.Mutable docs h = h
  bound_falls annotation.Ref docs h = h
  bound_falls annotation.RefMut docs h = h

  binding_falls : (id : ℕ) → AllNodes P (binding_docs s id)
  binding_falls id = none_falls P (of_binding s) (λ b. bound_falls b.mode (name_docs s b.name) (name_falls P s b.name)) (slice_get s.nodes.bindings id)

  range_falls : (start end : Option ℕ) (dots : List ℕ) → AllCalls P (calls.opt calls.e start ++ calls.opt calls.e end)
      → AllNodes P (opt (under Shift) start ++ text dots ++ opt (under Shift) end)
  range_falls None None dots a = tt
  range_falls None (Some y) dots a = a
  range_falls (Some x) None dots a = a
  range_falls (Some x) (Some y) dots a = a

  slice_falls : (prefix : List ℕ) (slice : Option ℕ) (suffix : List ℕ) → AllCalls P (flat_map calls.p prefix ++ calls.opt calls.p
      slice ++ flat_map calls.p suffix) → AllNodes P (flat_map (λ id. p id ++ text (codes ", ")) (prefix ++ option_to_list slice ++ suffix))
  slice_falls prefix slice suffix a =
      let each = λ (id : ℕ). p id ++ text (codes ", ") in
      let first = flat_map calls.p prefix in
      let middle = calls.opt calls.p slice in
      let end = flat_map calls.p suffix in
      let both = first_calls P (first ++ middle) end a in
      let is = flat_map-append each (prefix ++ option_to_list slice) suffix ∙ ap (λ u. u ++ flat_map each suffix) (flat_map-append each prefix (option_to_list slice)) in
      subst (AllNodes P) (sym is) (nodes_append P (flat_map each prefix ++ flat_map each (option_to_list slice)) (flat_map each suffix)
      (nodes_append P (flat_map each prefix) (flat_map each (option_to_list slice)) (each_falls P calls.p each (λ id h. h) prefix
      (first_calls P first middle both)) (middle_falls slice (last_calls P first middle both)))
      (each_falls P calls.p each (λ id h. h) suffix (last_calls P (first ++ middle) end a)))
    where
      middle_falls : (o : Option ℕ) → AllCalls P (calls.opt calls.p o) → AllNodes P (flat_map (λ id. p id ++ text (codes ", ")) (option_to_list o))
      middle_falls None b = tt
      middle_falls (Some id) b = b

  pub pat_falls : (x : Pat) → AllCalls P (pat_calls x) → AllNodes P (pat_docs s x)
  pat_falls pat.Missing a = tt
  pat_falls pat.Rest a = tt
  pat_falls pat.Wild a = tt
  pat_falls pat.NotNull a = tt
  pat_falls (pat.Tuple args ellipsis) a = in_parentheses_fall ellipsis args a
  pat_falls (pat.TupleStruct path args ellipsis) a = search (rules, nodes_append, path_falls, last_calls, in_parentheses_fall, first_calls)
  pat_falls (pat.Or args) a = nodes_append P (join (text (codes " | ")) (map p args)) (text (codes ")"))
      (joined_falls P (text (codes " | ")) tt (map p args) (pats_fall args a)) tt
  pat_falls (pat.Record ellipsis path args) a =
      grind (arith, common_steps, nodes_append, path_falls, last_calls, field_patterns_fall, first_calls, when_falls)
  pat_falls (pat.Range start end range_type) a = range_falls start end (range_text range_type) a
  pat_falls (pat.Slice prefix slice suffix) a = nodes_append P (flat_map (λ id. p id ++ text (codes ", "))
      (prefix ++ option_to_list slice ++ suffix)) (text (codes "]")) (slice_falls prefix slice suffix a) tt
  pat_falls (pat.Bind id subpat) a = nodes_append P (binding_docs s id) (opt (λ q. sp ++ text (codes "@ ") ++ p q) subpat)
      (binding_falls id) (opt_falls P calls.p (λ q. sp ++ text (codes "@ ") ++ p q) (λ q h. h) subpat a)
  pat_falls (pat.Path path) a = path_falls path a
  pat_falls x a = a

  -- types
  type_param_falls : (id : ℕ) (found : Result (Option (List ℕ)) Missing) → AllNodes P (type_param_docs s id found)
  type_param_falls id (Ok (Some name)) = name_falls P s name
  type_param_falls id (Ok None) = tt
  type_param_falls id (Err missing) = tt

  extern_falls : (x : ExternAbi) → AllNodes P (extern_docs x)
  extern_falls abi.Rust = tt
  extern_falls other = tt

  varargs_fall : (varargs : Bool) (types : List ℕ) → AllNodes P (varargs_docs varargs types)
  varargs_fall false types = tt
  varargs_fall true [] = tt
  varargs_fall true (type ∷ types) = tt

  all_but_last_falls : (types : List ℕ) → AllCalls P (flat_map calls.t types) → AllLists P (map t (all_but_last types))
  all_but_last_falls [] a = tt
  all_but_last_falls (x ∷ []) a = tt
  all_but_last_falls (x ∷ y ∷ xs) a = ((a.0, tt), all_but_last_falls (y ∷ xs) a.1)

  last_falls : (types : List ℕ) → AllCalls P (flat_map calls.t types) → AllNodes P (last types)
  last_falls [] a = tt
  last_falls (x ∷ []) a = a
  last_falls (x ∷ y ∷ xs) a = last_falls (y ∷ xs) a.1

  types_of_params : (params : List (Option (List ℕ) × ℕ)) → AllCalls P (flat_map (λ (entry : Option (List ℕ) × ℕ). calls.t entry.1)
      params) → AllCalls P (flat_map calls.t (map (λ (entry : Option (List ℕ) × ℕ). entry.1) params))
  types_of_params [] a = tt
  types_of_params (x ∷ xs) a = (a.0, types_of_params xs a.1)

  signature_falls : (varargs : Bool) (types : List ℕ) → AllCalls P (flat_map calls.t types) → AllNodes P (signature_docs varargs types)
  signature_falls varargs types a =
      let all = comma_joined (map t (all_but_last types)) in
      let dots = varargs_docs varargs (all_but_last types) in
      let arrow = text (codes ") -> ") in
      nodes_append P ((all ++ dots) ++ arrow) (last types)
      (nodes_append P (all ++ dots) arrow (nodes_append P all dots (joined_falls P (text (codes ", ")) tt
      (map t (all_but_last types)) (all_but_last_falls types a)) (varargs_fall varargs (all_but_last types))) tt) (last_falls types a)

  pub type_falls : (x : TypeRef) → AllCalls P (type_calls x) → AllNodes P (type_docs s x)
  type_falls type.Never a = tt
  type_falls type.Placeholder a = tt
  type_falls type.Error a = tt
  type_falls (type.TypeParam id) a = type_param_falls id.local_id (s.tables.type_param id)
  type_falls (type.Tuple types) a = nodes_append P (comma_joined (map t types)) (text (codes ")"))
      (joined_falls P (text (codes ", ")) tt (map t types) (map_falls P calls.t t (λ id h. h) types a)) tt
  type_falls (type.Reference r) a = search (rules, nodes_append, none_falls, lifetime_falls)
  type_falls (type.Fn f) a = search (rules, nodes_append, none_falls, for_falls, when_falls, extern_falls, signature_falls, types_of_params)
  type_falls (type.ImplTrait bounds) a = bounds_fall P s bounds a
  type_falls (type.DynTrait bounds) a = bounds_fall P s bounds a
  type_falls (type.Path path) a = path_falls path a
  type_falls x a = a
