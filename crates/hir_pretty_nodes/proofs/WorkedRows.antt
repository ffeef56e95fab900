-- Worked shapes: trees, and the texts that their doc pieces give.
use Rattle.std.proofs.Common.{◌≡◌, ℕ, Bool, true, false, List, [], ◌∷◌, Some, None, refl, codes, Ok, Err}
use Rattle.hir_base.specs.declared.hygiene.SyntaxContext.TheVariants as context
use Rattle.hir_base.specs.declared.edition.Edition.TheVariants as edition
use Rattle.hir_forest.specs.Height.{height}
use Rattle.std.specs.{Fmt.digits, Str.chars}
use lib.Utf8.{encode}
use Rattle.hir_node.specs.declared.{binding.Binding.Binding, expr.Expr.Expr, pat.Pat.Pat, type_ref.TypeRef.TypeRef}
use Rattle.hir_node.specs.declared.binding.BindingAnnotation.TheVariants as mode
use Rattle.hir_node.specs.declared.literal.Literal.TheVariants as literal
use Rattle.hir_node.specs.declared.expr_types.Statement.TheVariants as statement
use Rattle.hir_node.specs.declared.expr_types.Item.TheVariants as item
use Rattle.hir_node.specs.declared.expr_types.Unsafe.TheVariants as unsafety
use Rattle.hir_base.specs.declared.mod_path.PathKind.TheVariants as kind
use Rattle.hir_base.specs.declared.operators.ArithOp.TheVariants as arith
use Rattle.hir_base.specs.declared.operators.LogicOp.TheVariants as logic
use Rattle.hir_base.specs.declared.operators.BinaryOp.TheVariants as binary
use Rattle.hir_base.specs.declared.abi.ExternAbi.TheVariants as abi
use Rattle.hir_base.specs.declared.defs.LangItemTarget.TheVariants as target
use Rattle.hir_base.specs.declared.defs.NamedDef.TheVariants as named
use Rattle.hir_path.specs.declared.path.Path.{Path}
use Rattle.hir_path.specs.declared.path.Path.TheVariants as path
use Rattle.hir_node.specs.declared.node_id.NodeId.TheVariants as node
use Rattle.hir_node.specs.declared.expr.Expr.TheVariants as expr
use Rattle.hir_node.specs.declared.expr_types.Array.TheVariants as array
use Rattle.hir_node.specs.declared.expr_types.RecordSpread.TheVariants as spread
use Rattle.hir_node.specs.declared.pat.Pat.TheVariants as pat
use Rattle.hir_node.specs.declared.type_ref.TypeRef.TheVariants as type
use Rattle.hir_store_core.specs.declared.missing.Missing.TheVariants as missing
use Rattle.hir_validate.specs.Recursion.{fold_down, rank}
use Rattle.hir_pretty_nodes.specs.Prelude.{NameLookups, PrintEnv, pieces, path_pieces, first_missing, text_of}

-- tables that hold nothing
abbrev no_tables : NameLookups
no_tables = record {
  name = λ def. Err (missing.Name def);
  crate_name = λ id. Err (missing.Crate id);
  type_param = λ id. Err (missing.TypeParam id);
  lifetime_param = λ id. Err (missing.LifetimeParam id);
}

abbrev print_env : List Expr → List Pat → List TypeRef → List Binding → Bool → PrintEnv
print_env exprs pats types bindings one_line = record {
  nodes = record { exprs = exprs; pats = pats; types = types; bindings = bindings; labels = []; lifetimes = [] };
  tables = no_tables;
  words = codes "match" ∷ [];
  one_line = one_line;
}

abbrev bare : List (List ℕ) → Path
bare names = path.BarePath (record { kind = kind.Plain; segments = names })

abbrev var : List ℕ → Expr
var name = expr.Path (bare (name ∷ []))

abbrev named_type : List ℕ → TypeRef
named_type name = type.Path (bare (name ∷ []))

abbrev binding : List ℕ → Binding
binding name = record { name = name; mode = mode.Unannotated; problems = None; hygiene = context.Root edition.Edition2015 }

abbrev bind : ℕ → Pat
bind id = pat.Bind id None

-- the text of the last expression of a list, over these patterns, types and bindings
abbrev expr_text : List Expr → List Pat → List TypeRef → List Binding → ℕ → List ℕ
expr_text exprs pats types bindings id = let s = print_env exprs pats types bindings false in text_of s (pieces s (node.Expr id))

abbrev exprs_text : List Expr → ℕ → List ℕ
exprs_text exprs id = expr_text exprs [] [] [] id

-- the text of a pattern in one line, over bindings `a`, `b` and `match`
abbrev pat_text : List Pat → ℕ → List ℕ
pat_text pats id = let s = print_env [] pats [] (binding (codes "a") ∷ binding (codes "b") ∷ binding (codes "match") ∷ []) true in text_of s (pieces s (node.Pat id))

abbrev path_text : List Expr → List TypeRef → Path → List ℕ
path_text exprs types p = let s = print_env exprs [] types [] false in text_of s (path_pieces s p)

-- names, literals, constants and operators
literals_and_operators :
    (path_text [] [] (bare (codes "match" ∷ [])) ≡ codes "r#match")
    × (exprs_text (expr.Literal (literal.String (codes "a\"'")) ∷ []) 0 ≡ codes "\"a\\\"'\"")
    × (exprs_text (expr.Literal (literal.CString (codes "a")) ∷ []) 0 ≡ codes "\"a\\0\"")
    × (exprs_text (expr.Literal (literal.ByteString (0 ∷ 34 ∷ 255 ∷ [])) ∷ []) 0 ≡ codes "\"\\x00\\\"\\xff\"")
    × (exprs_text (expr.Const 3 ∷ []) 0 ≡ codes "const { /* ExprId(3) */ }")
    × (exprs_text (var (codes "a") ∷ var (codes "b") ∷ expr.BinaryOp 0 1 (Some (binary.ArithOp arith.Sub)) ∷ var (codes "c")
    ∷ expr.BinaryOp 2 3 (Some (binary.ArithOp arith.Sub)) ∷ []) 4 ≡ codes "(a - b) - c")
    × (exprs_text (var (codes "a") ∷ var (codes "b") ∷ expr.BinaryOp 0 1 (Some (binary.LogicOp logic.And)) ∷ var (codes "c")
    ∷ expr.BinaryOp 2 3 (Some (binary.LogicOp logic.And)) ∷ []) 4 ≡ codes "a && b && c")
    × (expr_text (var (codes "x") ∷ expr.Cast 0 2 ∷ []) [] (named_type (codes "u32") ∷ type.Tuple [] ∷ type.Fn (record { binder = None; params = (None, 0) ∷ (None, 1) ∷ []; is_varargs = false; is_unsafe = false; abi = abi.C }) ∷ []) [] 1 ≡ codes "x as extern C fn(u32) -> ()")
unfolding pieces fold_down rank height chars encode digits
literals_and_operators = (refl, refl, refl, refl, refl, refl, refl, refl)

-- arrays, tuples, arguments and fields
lists :
    (exprs_text (var (codes "a") ∷ var (codes "b") ∷ expr.Array (array.ElementList (0 ∷ 1 ∷ [])) ∷ []) 2 ≡ codes "[\n    a, b,\n]")
    × (exprs_text (var (codes "x") ∷ var (codes "y") ∷ expr.Match 1 [] ∷ expr.Array (array.Repeat 0 2) ∷ []) 3 ≡ codes "[\n    x; match y {\n    }\n\n]")
    × (exprs_text (var (codes "f") ∷ var (codes "x") ∷ expr.Call 0 (1 ∷ []) ∷ []) 2 ≡ codes "f(\n    x,\n)")
    × (exprs_text (var (codes "a") ∷ var (codes "b") ∷ expr.Tuple (0 ∷ 1 ∷ []) ∷ []) 2 ≡ codes "(a, b, )")
    × (exprs_text (var (codes "x") ∷ expr.RecordLit (bare (codes "S" ∷ [])) (record { name = codes "a"; expr = 0 } ∷ []) spread.None ∷ []) 1 ≡ codes "S{\n    a: x,\n}")
unfolding pieces fold_down rank height
lists = (refl, refl, refl, refl, refl)

-- blocks
blocks :
    (expr_text (var (codes "M") ∷ var (codes "W") ∷ expr.Assignment 0 0 ∷ expr.Block None (statement.Expr 2 true ∷ []) (Some 1)
    None unsafety.No ∷ []) (bind 0 ∷ []) [] (binding (codes "x") ∷ []) 3 ≡ codes "{\n    x = M;\n    W\n}")
    × (exprs_text (expr.Block None (statement.Item item.Other ∷ []) None None unsafety.No ∷ []) 0 ≡ codes "{\n}")
    × (exprs_text (var (codes "x") ∷ var (codes "y") ∷ expr.Match 1 [] ∷ expr.Array (array.Repeat 0 2)
    ∷ expr.Block None [] (Some 3) None unsafety.No ∷ []) 4 ≡ codes "{\n    [\n        x; match y {\n        }\n    \n    ]\n}")
unfolding pieces fold_down rank height
blocks = (refl, refl, refl)

-- patterns in one line; a word of the edition never stands alone
patterns :
    (pat_text (bind 0 ∷ pat.Record true (bare (codes "S" ∷ [])) (record { name = codes "a"; pat = 0 } ∷ []) ∷ []) 1 ≡ codes "S { a, .. }")
    × (pat_text (bind 2 ∷ pat.Record false (bare (codes "S" ∷ [])) (record { name = codes "match"; pat = 0 } ∷ []) ∷ []) 1 ≡ codes "S { r#match: r#match }")
    × (pat_text (pat.Record false (bare (codes "S" ∷ [])) [] ∷ []) 0 ≡ codes "S { }")
    × (pat_text (bind 0 ∷ bind 1 ∷ pat.TupleStruct (bare (codes "T" ∷ [])) (0 ∷ 1 ∷ []) (Some 1) ∷ []) 2 ≡ codes "T(a, .., b)")
    × (pat_text (bind 0 ∷ pat.Tuple (0 ∷ []) (Some 7) ∷ []) 1 ≡ codes "(a, ..)")
    × (pat_text (pat.Tuple [] (Some 0) ∷ []) 0 ≡ codes "(..)")
    × (pat_text (bind 0 ∷ bind 1 ∷ pat.Slice (0 ∷ 1 ∷ []) None [] ∷ []) 2 ≡ codes "[a, b, ]")
unfolding pieces fold_down rank height
patterns = (refl, refl, refl, refl, refl, refl, refl)

-- the first definition that is missing, in printing order, and a lang item by the name that the tables have
definitions :
    ((let s = print_env (expr.Path (path.LangItem (target.StructId 1) None) ∷ expr.Path (path.LangItem (target.FunctionId 0) None)
    ∷ expr.Tuple (0 ∷ 1 ∷ []) ∷ []) [] [] [] false in first_missing (pieces s (node.Expr 2))) ≡ Some (missing.Name (named.StructId 1)))
    × ((let s = print_env [] [] [] [] false in first_missing (path_pieces s
    (path.BarePath (record { kind = kind.DollarCrate 0; segments = codes "a" ∷ [] })))) ≡ Some (missing.Crate 0))
    × (text_of (record (print_env [] [] [] [] false) { tables = record no_tables { name = λ def. Ok (Some (codes "f")) } }) (path_pieces (record (print_env [] [] [] [] false) { tables = record no_tables { name = λ def. Ok (Some (codes "f")) } }) (path.LangItem (target.FunctionId 0) (Some (codes "new")))) ≡ codes "builtin#lang(f::new)")
unfolding pieces fold_down rank height
definitions = (refl, refl, refl)
