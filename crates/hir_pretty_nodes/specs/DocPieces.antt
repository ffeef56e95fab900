-- The doc pieces of a node, its text, and the first definition that is missing.
use Rattle.std.specs.Prelude.{ℕ, Bool, true, false, ◌&&◌, not, List, [], ◌∷◌, ◌++◌, Option, Some, None, codes, slice_get, flat_map}
use Rattle.hir_base.specs.{Precedence.needs_parentheses, declared.prec.ExprPrecedence.ExprPrecedence}
use Rattle.hir_base.specs.declared.prec.ExprPrecedence.TheVariants.{LOr, LAnd, Unambiguous}
use Rattle.hir_node.specs.{Precedence.precedence, declared.expr.Expr.Expr, declared.node_id.NodeId.NodeId}
use Rattle.hir_node.specs.declared.node_id.NodeId.TheVariants as node
use Rattle.hir_path.specs.declared.path.Path.{Path}
use Rattle.hir_validate.specs.Recursion.{fold_down}
use Rattle.hir_store_core.specs.declared.missing.Missing.{Missing}
use Rattle.hir_pretty_layout.specs.{Layouts.Layout, Layouts.Text, Page.rendering, declared.line_format.LineFormat.LineFormat}
use Rattle.hir_pretty_layout.specs.declared.line_format.LineFormat.TheVariants.{Oneline, Newline}
use Rattle.hir_pretty_docs.specs.{NameLookups.PrintEnv, Docs.Doc, Docs.Put, Docs.MissingDoc, Docs.ExprDoc, Docs.ExprIn, Docs.Pattern}
use Rattle.hir_pretty_docs.specs.{Docs.TypeDoc, Docs.opt, Exprs.expr_docs, Pats.pat_docs, Types.type_docs, Paths.path_docs}

-- a layout, or a missing definition in its place
pub data DocPiece : Type 0 where
  Present : Layout → DocPiece
  Absent : Missing → DocPiece

-- the documents of a node, by cases on what it is
abbrev pub docs_of : PrintEnv → NodeId → List Doc
docs_of s (node.Expr id) = opt (expr_docs s) (slice_get s.nodes.exprs id)
docs_of s (node.Pat id) = opt (pat_docs s) (slice_get s.nodes.pats id)
docs_of s (node.TypeRef id) = opt (type_docs s) (slice_get s.nodes.types id)

-- `||` under `||` and `&&` under `&&` are without parentheses
abbrev pub is_chain : ExprPrecedence → ExprPrecedence → Bool
is_chain LOr LOr = true
is_chain LAnd LAnd = true
is_chain child parent = false

abbrev pub stands_in_parentheses : ExprPrecedence → ExprPrecedence → Bool
stands_in_parentheses child parent = needs_parentheses child parent && not (is_chain child parent)

abbrev pub precedence_found : Option Expr → ExprPrecedence
precedence_found None = Unambiguous
precedence_found (Some x) = precedence x

abbrev pub with_parentheses : Bool → List DocPiece → List DocPiece
with_parentheses false ps = ps
with_parentheses true ps = Present (Text (codes "(")) ∷ (ps ++ (Present (Text (codes ")")) ∷ []))

-- the doc pieces of a document, where a node inside it gives what `self` says
abbrev pub doc_pieces : PrintEnv → (NodeId → List DocPiece) → Doc → List DocPiece
doc_pieces s self (Put piece) = Present piece ∷ []
doc_pieces s self (MissingDoc missing) = Absent missing ∷ []
doc_pieces s self (ExprDoc id) = self (node.Expr id)
doc_pieces s self (ExprIn id parent) = with_parentheses
    (stands_in_parentheses (precedence_found (slice_get s.nodes.exprs id)) parent) (self (node.Expr id))
doc_pieces s self (Pattern id) = self (node.Pat id)
doc_pieces s self (TypeDoc id) = self (node.TypeRef id)

-- the doc pieces of a node are those of its documents
abbrev pub pieces_step : PrintEnv → (NodeId → List DocPiece) → NodeId → List DocPiece
pieces_step s self n = flat_map (doc_pieces s self) (docs_of s n)

-- pieces s n = flat_map (doc_pieces s (pieces s)) (docs_of s n): theorem pieces_are_their_step
unfoldable pub pieces : PrintEnv → NodeId → List DocPiece
pieces s n = fold_down s.nodes (pieces_step s) [] n

-- the doc pieces of documents
abbrev pub doc_list_pieces : PrintEnv → List Doc → List DocPiece
doc_list_pieces s is = flat_map (doc_pieces s (pieces s)) is

-- the doc pieces of a path, which is no node
abbrev pub path_pieces : PrintEnv → Path → List DocPiece
path_pieces s path = doc_list_pieces s (path_docs s path)

-- the first definition that is missing, in printing order
abbrev pub first_missing : List DocPiece → Option Missing
first_missing [] = None
first_missing (Present piece ∷ ps) = first_missing ps
first_missing (Absent missing ∷ ps) = Some missing

-- the layouts among doc pieces
abbrev pub layout : List DocPiece → List Layout
layout [] = []
layout (Present piece ∷ ps) = piece ∷ layout ps
layout (Absent missing ∷ ps) = layout ps

abbrev pub format_of : Bool → LineFormat
format_of true = Oneline
format_of false = Newline

-- the text of doc pieces
abbrev pub text_of : PrintEnv → List DocPiece → List ℕ
text_of s ps = rendering (format_of s.one_line) (layout ps)
