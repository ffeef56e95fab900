-- What lines make names no definition outside, so none is missing from what is printed of it.
use Rattle.std.proofs.Common.{◌≡◌, ℕ, zero, suc, Bool, true, false, List, [], ◌∷◌, ◌++◌, Option, Some, None, map, refl, sym, ap, subst, codes, slice_get, flat_map, option_to_list, Result, Ok}
use Rattle.hir_node.specs.declared.binding.Binding.{Binding}
use Rattle.hir_node.specs.declared.binding.BindingAnnotation.{BindingAnnotation}
use Rattle.hir_node.specs.declared.binding.BindingAnnotation.TheVariants as annotation
use Rattle.hir_node.specs.declared.expr.Expr.{Expr}
use Rattle.hir_node.specs.declared.expr_types.MatchArm.{MatchArm}
use Rattle.hir_node.specs.declared.expr_types.Statement.{Statement}
use Rattle.hir_node.specs.declared.expr_types.Statement.TheVariants as statement
use Rattle.hir_node.specs.declared.node_id.NodeId.{NodeId}
use Rattle.hir_node.specs.declared.node_id.NodeId.TheVariants as node
use Rattle.hir_node.specs.declared.pat.Pat.{Pat}
use Rattle.hir_node.specs.declared.type_ref.TypeRef.{TypeRef}
use Rattle.hir_base.specs.declared.prec.ExprPrecedence.TheVariants.{Shift}
use Rattle.hir_show_grammar.specs.Tokens.{Token}
use Rattle.hir_show_grammar.specs.ExprGrammar as line
use Rattle.hir_show_grammar.specs.ExprGrammar.{IsExpr}
use Rattle.hir_show_grammar.specs.PatGrammar as line_pat
use Rattle.hir_show_grammar.specs.PatGrammar.{IsPat}
use Rattle.hir_show_grammar.specs.TypeGrammar as line_type
use Rattle.hir_show_grammar.specs.TypeGrammar.{IsType}
use Rattle.hir_validate.specs.Recursion.{fold_down, fold_down_within, rank}
use Rattle.hir_pretty_nodes.specs.NameLookups.{PrintEnv}
use Rattle.hir_pretty_nodes.specs.Docs.{Doc, Put, MissingDoc, ExprDoc, ExprIn, Pattern, TypeDoc, text, sp, br, out, e, under, p, t, opt, join, comma_joined}
use Rattle.hir_pretty_nodes.specs.Names.{name_docs, name_parts, annotation_docs, of_binding, binding_docs}
use Rattle.hir_pretty_nodes.specs.Paths.{path_docs}
use Rattle.hir_pretty_nodes.specs.Exprs.{each_line, in_lines, arm_docs, semicolon, statement_docs, inside_block, params, expr_docs}
use Rattle.hir_pretty_nodes.specs.Pats.{pat_docs}
use Rattle.hir_pretty_nodes.specs.Types.{type_docs}
use Rattle.hir_pretty_nodes.specs.DocPieces.{DocPiece, Present, Absent, docs_of, doc_pieces, with_parentheses, pieces_step, pieces, first_missing}
use Rattle.hir_pretty_nodes.specs.DocPieces.{doc_list_pieces}
use Rattle.hir_show_grammar.specs.Words.{plain}
use Rattle.std.specs.FinMap as map
use Rattle.std.specs.Cmp.Lexicographic.{nat_list_cmp_total}
use Rattle.hir_base.specs.Keys.{named_code}
use Rattle.hir_base.specs.declared.defs.DefWithBodyId.TheVariants as body
use Rattle.hir_base.specs.declared.defs.NamedDef.TheVariants as named_def
use Rattle.hir_store_core.specs.declared.missing.Missing.{Missing}
use Rattle.hir_store_core.specs.declared.missing.Missing.TheVariants as missing
use Rattle.hir_body.specs.Bodies.{BodyContents, formals_of, last_root}
use Rattle.hir_pretty_nodes.specs.TableLookups.{lookups_of, found_or}
use Rattle.hir_pretty_nodes.specs.Paths.{found_name}
use Rattle.hir_pretty.specs.Bodies.{body_docs, formal_params, formal_self}
use Rattle.hir_pretty.specs.FoundParts.{parents}
use Rattle.hir_show_run.specs.internal.OfLines.{IsExprOfLine, IsPatOfLine, IsTypeOfLine, AreOfLines}
use Rattle.hir_show_run.specs.Printing.{tables_of, printed_from, body_pieces}

-- 1. Items of which none is a missing definition

abbrev pub NoneLacks : List Doc → Type 0
NoneLacks [] = Unit {0}
NoneLacks (Put piece ∷ is) = NoneLacks is
NoneLacks (MissingDoc missing ∷ is) = ⊥
NoneLacks (ExprDoc id ∷ is) = NoneLacks is
NoneLacks (ExprIn id parent ∷ is) = NoneLacks is
NoneLacks (Pattern id ∷ is) = NoneLacks is
NoneLacks (TypeDoc id ∷ is) = NoneLacks is

pub two : (xs ys : List Doc) → NoneLacks xs → NoneLacks ys → NoneLacks (xs ++ ys)
two [] ys h k = k
two (Put piece ∷ xs) ys h k = two xs ys h k
two (MissingDoc missing ∷ xs) ys h k = absurd h
two (ExprDoc id ∷ xs) ys h k = two xs ys h k
two (ExprIn id parent ∷ xs) ys h k = two xs ys h k
two (Pattern id ∷ xs) ys h k = two xs ys h k
two (TypeDoc id ∷ xs) ys h k = two xs ys h k

four : (xs ys zs us : List Doc) → NoneLacks xs → NoneLacks ys → NoneLacks zs → NoneLacks us → NoneLacks (xs ++ ys ++ zs ++ us)
four xs ys zs us h k l m = two (xs ++ ys ++ zs) us (two (xs ++ ys) zs (two xs ys h k) l) m

five : (xs ys zs us vs : List Doc) → NoneLacks xs → NoneLacks ys → NoneLacks zs → NoneLacks us → NoneLacks vs → NoneLacks (xs ++ ys ++ zs ++ us ++ vs)
five xs ys zs us vs h k l m n = two (xs ++ ys ++ zs ++ us) vs (four xs ys zs us h k l m) n

of_all : {X : Type 0} (items : X → List Doc) → ((x : X) → NoneLacks (items x)) → (xs : List X) → NoneLacks (flat_map items xs)
of_all items each [] = tt
of_all items each (x ∷ xs) = two (items x) (flat_map items xs) (each x) (of_all items each xs)

of_option : {X : Type 0} (items : X → List Doc) → ((x : X) → NoneLacks (items x)) → (x : Option X) → NoneLacks (opt items x)
of_option items each None = tt
of_option items each (Some x) = each x

-- lists of items
abbrev pub EachLacksNone : List (List Doc) → Type 0
EachLacksNone [] = Unit {0}
EachLacksNone (x ∷ xs) = NoneLacks x × EachLacksNone xs

pub of_joined : (between : List Doc) → NoneLacks between → (xs : List (List Doc)) → EachLacksNone xs → NoneLacks (join between xs)
of_joined between none [] h = tt
of_joined between none (x ∷ []) h = h.0
of_joined between none (x ∷ y ∷ xs) h = two (x ++ between) (join between (y ∷ xs)) (two x between h.0 none) (of_joined between none (y ∷ xs) h.1)

pub of_each : {X : Type 0} (items : X → List Doc) → ((x : X) → NoneLacks (items x)) → (xs : List X) → EachLacksNone (map items xs)
of_each items each [] = tt
of_each items each (x ∷ xs) = (each x, of_each items each xs)

pub each_two : (xs ys : List (List Doc)) → EachLacksNone xs → EachLacksNone ys → EachLacksNone (xs ++ ys)
each_two [] ys h k = k
each_two (x ∷ xs) ys h k = (h.0, each_two xs ys h.1 k)

name_none : (s : PrintEnv) (name : List ℕ) → NoneLacks (name_docs s name)
name_none s name = of_all text (λ bytes. tt) (name_parts s.words name)

bound_none : (mode : BindingAnnotation) (items : List Doc) → NoneLacks items → NoneLacks (annotation_docs mode ++ items)
bound_none annotation.Unannotated items h = h
bound_none annotation.Mutable items h = h
bound_none annotation.Ref items h = h
bound_none annotation.RefMut items h = h

pub binding_none : (s : PrintEnv) (id : ℕ) → NoneLacks (binding_docs s id)
binding_none s id = of_option (of_binding s) (λ (b : Binding). bound_none b.mode (name_docs s b.name) (name_none s b.name)) (slice_get s.nodes.bindings id)

path_none : (s : PrintEnv) (name : List ℕ) → NoneLacks (path_docs s (plain name))
path_none s name = two (name_docs s name) [] (name_none s name) tt

-- 2. The nodes that lines make

after : (before : List ℕ) (items : ℕ → List Doc) → ((id : ℕ) → NoneLacks (items id)) → (x : Option ℕ) → NoneLacks (opt (λ id. text before ++ items id) x)
after before items each x = of_option (λ id. text before ++ items id) each x

lines_none : (args : List ℕ) → NoneLacks (in_lines args)
lines_none [] = tt
lines_none (arg ∷ args) = two (each_line (arg ∷ args)) out (of_all (λ id. e id ++ text (codes ",") ++ br) (λ id. tt) (arg ∷ args)) tt

arm_none : (arm : MatchArm) → NoneLacks (arm_docs arm)
arm_none arm =
    five (opt (λ id. text (codes " if ") ++ e id) arm.guard) (text (codes " => ")) (e arm.expr) (text (codes ",")) br (after (codes " if ") e (λ id. tt) arm.guard) tt tt tt tt

semicolon_none : (has_semi : Bool) → NoneLacks (semicolon has_semi ++ br)
semicolon_none true = tt
semicolon_none false = tt

statement_none : (x : Statement) → NoneLacks (statement_docs x)
statement_none (statement.Let pat type_ref initializer else_branch) =
    five (opt (λ id. text (codes ": ") ++ t id) type_ref) (opt (λ id. text (codes " = ") ++ e id) initializer) (opt (λ id. text (codes " else ") ++ e id) else_branch)
    (text (codes ";")) br (after (codes ": ") t (λ id. tt) type_ref) (after (codes " = ") e (λ id. tt) initializer) (after (codes " else ") e (λ id. tt) else_branch) tt tt
statement_none (statement.Expr expr has_semi) = semicolon_none has_semi
statement_none (statement.Item item) = tt

inside_none : (statements : List Statement) (tail : Option ℕ) → NoneLacks (inside_block statements tail)
inside_none [] None = tt
inside_none [] (Some tail) = tt
inside_none (x ∷ xs) tail =
    four (flat_map statement_docs (x ∷ xs)) (opt e tail) br out (of_all statement_docs statement_none (x ∷ xs)) (of_option e (λ id. tt) tail) tt tt

params_none : (args : List ℕ) (types : List (Option ℕ)) → EachLacksNone (params args types)
params_none [] types = tt
params_none (arg ∷ args) [] = tt
params_none (arg ∷ args) (type ∷ types) = (after (codes ": ") t (λ id. tt) type, params_none args types)

pub expr_none : (s : PrintEnv) {x : Expr} {tokens : List Token} → IsExpr x tokens → NoneLacks (expr_docs s x)
expr_none s line.missing = tt
expr_none s (line.path {name = name}) = path_none s name
expr_none s line.int = tt
expr_none s (line.call {args = args}) = two (in_lines args) (text (codes ")")) (lines_none args) tt
expr_none s (line.tuple {exprs = exprs}) = two (flat_map (λ id. e id ++ text (codes ", ")) exprs) (text (codes ")")) (of_all (λ id. e id ++ text (codes ", ")) (λ id. tt) exprs) tt
expr_none s (line.array {elements = []}) = tt
expr_none s (line.array {elements = x ∷ xs}) =
    four (flat_map (λ id. e id ++ text (codes ", ")) xs) out br (text (codes "]")) (of_all (λ id. e id ++ text (codes ", ")) (λ id. tt) xs) tt tt tt
expr_none s line.repeat = tt
expr_none s line.reference = tt
expr_none s line.binary = tt
expr_none s line.let_expr = tt
expr_none s (line.if_expr {else_branch = else_branch}) = after (codes " else ") e (λ id. tt) else_branch
expr_none s line.loop_expr = tt
expr_none s line.assign = tt
expr_none s line.constant = tt
expr_none s (line.match_expr {arms = arms}) = four (flat_map arm_docs arms) out (text (codes "}")) br (of_all arm_docs arm_none arms) tt tt tt
expr_none s (line.closure {body = body} {args = args}) =
    let shown = params args (map (λ _. None) args) in
    let list = of_joined (text (codes ", ")) tt shown (params_none args (map (λ _. None) args)) in
    five (comma_joined shown) (text (codes "|")) [] sp (e body) list tt tt tt tt
expr_none s (line.block {tail = tail} {statements = statements}) = two (inside_block statements tail) (text (codes "}")) (inside_none statements tail) tt

pats_none : (between : List ℕ) (args : List ℕ) → NoneLacks (join (text between) (map p args) ++ text (codes ")"))
pats_none between args = two (join (text between) (map p args)) (text (codes ")")) (of_joined (text between) tt (map p args) (of_each p (λ id. tt) args)) tt

pub pat_none : (s : PrintEnv) {x : Pat} {tokens : List Token} → IsPat x tokens → NoneLacks (pat_docs s x)
pat_none s line_pat.wild = tt
pat_none s line_pat.missing = tt
pat_none s line_pat.rest = tt
pat_none s (line_pat.bind {id = id} {subpat = subpat}) =
    two (binding_docs s id) (opt (λ q. sp ++ text (codes "@ ") ++ p q) subpat) (binding_none s id) (of_option (λ q. sp ++ text (codes "@ ") ++ p q) (λ q. tt) subpat)
pat_none s (line_pat.tuple {args = args}) = pats_none (codes ", ") args
pat_none s (line_pat.or_pat {pats = args}) = pats_none (codes " | ") args
pat_none s (line_pat.tuple_struct {name = name} {args = args}) =
    two (path_docs s (plain name)) (text (codes "(") ++ comma_joined (map p args) ++ text (codes ")")) (path_none s name) (pats_none (codes ", ") args)
pat_none s (line_pat.range {start = start} {end = end}) =
    two (opt (under Shift) start ++ text (codes "..=")) (opt (under Shift) end)
    (two (opt (under Shift) start) (text (codes "..=")) (of_option (under Shift) (λ id. tt) start) tt) (of_option (under Shift) (λ id. tt) end)
pat_none s line_pat.lit = tt
pat_none s line_pat.expr = tt

pub type_none : (s : PrintEnv) {x : TypeRef} {tokens : List Token} → IsType x tokens → NoneLacks (type_docs s x)
type_none s (line_type.path {name = name}) = path_none s name
type_none s (line_type.tuple {types = types}) = two (comma_joined (map t types)) (text (codes ")")) (of_joined (text (codes ", ")) tt (map t types) (of_each t (λ id. tt) types)) tt
type_none s line_type.array = tt
type_none s line_type.pattern = tt
type_none s line_type.never = tt

-- 3. Pieces

missing_two : (ps qs : List DocPiece) → first_missing ps ≡ None → first_missing qs ≡ None → first_missing (ps ++ qs) ≡ None
missing_two [] qs h k = k
missing_two (Present piece ∷ ps) qs h k = missing_two ps qs h k
missing_two (Absent missing ∷ ps) qs h k = cc

missing_parenthesized : (b : Bool) (ps : List DocPiece) → first_missing ps ≡ None → first_missing (with_parentheses b ps) ≡ None
missing_parenthesized true ps h = missing_two ps (Present _ ∷ []) h refl
missing_parenthesized false ps h = h

-- the doc pieces of documents that lack none, where those of nodes lack none
module _ (s : PrintEnv) (self : NodeId → List DocPiece) (none : (n : NodeId) → first_missing (self n) ≡ None) where
  item_missing : (is : List Doc) → NoneLacks is → first_missing (flat_map (doc_pieces s self) is) ≡ None
  item_missing [] h = refl
  item_missing (Put piece ∷ is) h = item_missing is h
  item_missing (MissingDoc missing ∷ is) h = absurd h
  item_missing (ExprDoc id ∷ is) h = missing_two (self (node.Expr id)) (flat_map (doc_pieces s self) is) (none (node.Expr id)) (item_missing is h)
  item_missing (ExprIn id parent ∷ is) h = missing_two (doc_pieces s self (ExprIn id parent)) (flat_map (doc_pieces s self) is) (missing_parenthesized _ (self (node.Expr id)) (none (node.Expr id))) (item_missing is h)
  item_missing (Pattern id ∷ is) h = missing_two (self (node.Pat id)) (flat_map (doc_pieces s self) is) (none (node.Pat id)) (item_missing is h)
  item_missing (TypeDoc id ∷ is) h = missing_two (self (node.TypeRef id)) (flat_map (doc_pieces s self) is) (none (node.TypeRef id)) (item_missing is h)

module _ (s : PrintEnv) (none : (n : NodeId) → NoneLacks (docs_of s n)) where
  missing_within : (depth : ℕ) (n : NodeId) → first_missing (fold_down_within (pieces_step s) [] depth n) ≡ None
  missing_within zero n = refl
  missing_within (suc depth) n = item_missing s (fold_down_within (pieces_step s) [] depth) (missing_within depth) (docs_of s n) (none n)

  pieces_missing : (n : NodeId) → first_missing (pieces s n) ≡ None
  unfolding pieces fold_down
  pieces_missing n = missing_within (suc (rank s.nodes n)) n

  pub printed_missing : (is : List Doc) → NoneLacks is → first_missing (doc_list_pieces s is) ≡ None
  printed_missing is h = item_missing s (pieces s) pieces_missing is h

-- 4. A body of lines, as that of function 0

expr_at : (s : PrintEnv) (found : Option Expr) → ((x : Expr) → found ≡ Some x → IsExprOfLine x) → NoneLacks (opt (expr_docs s) found)
expr_at s None each = tt
expr_at s (Some x) each = let is = each x refl in expr_none s is.1

pat_at : (s : PrintEnv) (found : Option Pat) → ((x : Pat) → found ≡ Some x → IsPatOfLine x) → NoneLacks (opt (pat_docs s) found)
pat_at s None each = tt
pat_at s (Some x) each = let is = each x refl in pat_none s is.1

type_at : (s : PrintEnv) (found : Option TypeRef) → ((x : TypeRef) → found ≡ Some x → IsTypeOfLine x) → NoneLacks (opt (type_docs s) found)
type_at s None each = tt
type_at s (Some x) each = let is = each x refl in type_none s is.1

nodes_none : (s : PrintEnv) → AreOfLines s.nodes → (n : NodeId) → NoneLacks (docs_of s n)
nodes_none s h (node.Expr id) = expr_at s (slice_get s.nodes.exprs id) (h.exprs id)
nodes_none s h (node.Pat id) = pat_at s (slice_get s.nodes.pats id) (h.pats id)
nodes_none s h (node.TypeRef id) = type_at s (slice_get s.nodes.types id) (h.types id)

-- the tables have the name of function 0
name_of_function : (name : Option (List ℕ)) → (lookups_of (tables_of name)).name (named_def.FunctionId 0) ≡ Ok name
name_of_function name =
    ap (found_or (missing.Name (named_def.FunctionId 0)))
    (map.get-insert nat_list_cmp_total map.empty (named_code (named_def.FunctionId 0)) name (named_code (named_def.FunctionId 0)))

name_found : (default : List ℕ) (name : Option (List ℕ)) → NoneLacks (found_name default (Ok name))
name_found default None = tt
name_found default (Some name) = tt

body_none : (name : Option (List ℕ)) (b : BodyContents) → NoneLacks (body_docs (printed_from name b) (parents (tables_of name)) (body.FunctionId 0) b)
body_none name b =
    let s = printed_from name b in
    let formals = formal_params s (formal_self b.self_param) (formals_of b.params) in
    let each = each_two (map (binding_docs s) (option_to_list (formal_self b.self_param))) (map p (formals_of b.params))
    (of_each (binding_docs s) (binding_none s) (option_to_list (formal_self b.self_param))) (of_each p (λ id. tt) (formals_of b.params)) in
    let shown = found_name (codes "<missing>") (s.tables.name (named_def.FunctionId 0)) in
    let params = two (comma_joined formals) (text (codes ") ")) (of_joined (text (codes ", ")) tt formals each) tt in
    four shown (text (codes "(") ++ comma_joined formals ++ text (codes ") ")) (opt e (last_root b.store)) []
    (subst (λ (found : Result (Option (List ℕ)) Missing). NoneLacks (found_name (codes "<missing>") found)) (sym (name_of_function name)) (name_found (codes "<missing>") name))
    params (of_option e (λ id. tt) (last_root b.store)) tt

pub nothing_missing : (name : Option (List ℕ)) (b : BodyContents) → AreOfLines b.store.nodes → first_missing (body_pieces name b) ≡ None
nothing_missing name b h =
    printed_missing (printed_from name b) (nodes_none (printed_from name b) h) (body_docs (printed_from name b) (parents (tables_of name)) (body.FunctionId 0) b) (body_none name b)
