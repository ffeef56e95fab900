-- The size of what is printed: one step for a layout, and one more for a node than for what is inside it.
use Rattle.std.specs.Prelude.{ℕ, ◌+◌, List, [], ◌∷◌}
use Rattle.hir_node.specs.declared.node_id.NodeId.{NodeId}
use Rattle.hir_node.specs.declared.node_id.NodeId.TheVariants as node
use Rattle.hir_validate.specs.Recursion.{fold_down}
use Rattle.hir_pretty_docs.specs.NameLookups.{PrintEnv}
use Rattle.hir_pretty_docs.specs.Docs.{Doc, Put, MissingDoc, ExprDoc, ExprIn, Pattern, TypeDoc}
use Rattle.hir_pretty_nodes.specs.DocPieces.{docs_of}

abbrev pub total : {X : Type 0} → (X → ℕ) → List X → ℕ
total f [] = 0
total f (x ∷ xs) = f x + total f xs

-- parentheses may be put around an expression under a precedence
abbrev pub doc_size : (NodeId → ℕ) → Doc → ℕ
doc_size self (Put piece) = 1
doc_size self (MissingDoc missing) = 1
doc_size self (ExprDoc id) = 1 + self (node.Expr id)
doc_size self (ExprIn id parent) = 3 + self (node.Expr id)
doc_size self (Pattern id) = 1 + self (node.Pat id)
doc_size self (TypeDoc id) = 1 + self (node.TypeRef id)

abbrev pub node_size_step : PrintEnv → (NodeId → ℕ) → NodeId → ℕ
node_size_step s self n = total (doc_size self) (docs_of s n)

-- the sizes of the documents of a node, together
-- node_size s n = total (doc_size (node_size s)) (docs_of s n): lemma node_size_at of SizeLemmas
unfoldable pub node_size : PrintEnv → NodeId → ℕ
node_size s n = fold_down s.nodes (node_size_step s) 0 n

abbrev pub size : PrintEnv → List Doc → ℕ
size s is = total (doc_size (node_size s)) is
