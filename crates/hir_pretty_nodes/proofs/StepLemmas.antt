-- The doc pieces of a node are those of its documents, in a store where what is printed inside a node has a
-- lower rank.
use Rattle.std.proofs.Common.{◌≡◌, ℕ, zero, suc, ◌<◌, List, [], ◌∷◌, ◌++◌, refl, ap₂, arith, flat_map, rules}
use Rattle.hir_pretty_nodes.specs.Prelude.{NodeId, PrintEnv, Doc, Put, MissingDoc, ExprDoc, ExprIn, Pattern, TypeDoc, DocPiece}
use Rattle.hir_pretty_nodes.specs.Prelude.{docs_of, doc_pieces, pieces_step, pieces, AllNodes, DocsDecrease}
use Rattle.hir_node.specs.declared.node_id.NodeId.TheVariants as node
use Rattle.hir_validate.specs.Recursion.{rank, fold_down_within, fold_down}

-- nodes among lists one after another
pub nodes_append : (P : NodeId → Type 0) (xs ys : List Doc) → AllNodes P xs → AllNodes P ys → AllNodes P (xs ++ ys)
nodes_append P [] ys a b = b
nodes_append P (Put piece ∷ xs) ys a b = nodes_append P xs ys a b
nodes_append P (MissingDoc missing ∷ xs) ys a b = nodes_append P xs ys a b
nodes_append P (ExprDoc id ∷ xs) ys a b = (a.0, nodes_append P xs ys a.1 b)
nodes_append P (ExprIn id parent ∷ xs) ys a b = (a.0, nodes_append P xs ys a.1 b)
nodes_append P (Pattern id ∷ xs) ys a b = (a.0, nodes_append P xs ys a.1 b)
nodes_append P (TypeDoc id ∷ xs) ys a b = (a.0, nodes_append P xs ys a.1 b)

pub nodes_weaker : (P Q : NodeId → Type 0) → ((k : NodeId) → P k → Q k) → (xs : List Doc) → AllNodes P xs → AllNodes Q xs
nodes_weaker P Q f [] a = a
nodes_weaker P Q f (Put piece ∷ xs) a = nodes_weaker P Q f xs a
nodes_weaker P Q f (MissingDoc missing ∷ xs) a = nodes_weaker P Q f xs a
nodes_weaker P Q f (ExprDoc id ∷ xs) a = (f (node.Expr id) a.0, nodes_weaker P Q f xs a.1)
nodes_weaker P Q f (ExprIn id parent ∷ xs) a = (f (node.Expr id) a.0, nodes_weaker P Q f xs a.1)
nodes_weaker P Q f (Pattern id ∷ xs) a = (f (node.Pat id) a.0, nodes_weaker P Q f xs a.1)
nodes_weaker P Q f (TypeDoc id ∷ xs) a = (f (node.TypeRef id) a.0, nodes_weaker P Q f xs a.1)

-- documents ask for the nodes among them alone
module _ (s : PrintEnv) (self other : NodeId → List DocPiece) where
  first : (x : Doc) (xs : List Doc) → doc_pieces s self x ≡ doc_pieces s other x → flat_map (doc_pieces s self) xs ≡ flat_map (doc_pieces s other) xs
      → flat_map (doc_pieces s self) (x ∷ xs) ≡ flat_map (doc_pieces s other) (x ∷ xs)
  first x xs e f = ap₂ (λ a b. a ++ b) e f

  pub same_pieces : (xs : List Doc) → AllNodes (λ k. self k ≡ other k) xs → flat_map (doc_pieces s self) xs ≡ flat_map (doc_pieces s other) xs
  same_pieces [] a = refl
  same_pieces (Put piece ∷ xs) a = first (Put piece) xs refl (same_pieces xs a)
  same_pieces (MissingDoc missing ∷ xs) a = first (MissingDoc missing) xs refl (same_pieces xs a)
  same_pieces (ExprDoc id ∷ xs) a = first (ExprDoc id) xs a.0 (same_pieces xs a.1)
  same_pieces (ExprIn id parent ∷ xs) a = search (rules, first, same_pieces xs a.1)
  same_pieces (Pattern id ∷ xs) a = first (Pattern id) xs a.0 (same_pieces xs a.1)
  same_pieces (TypeDoc id ∷ xs) a = first (TypeDoc id) xs a.0 (same_pieces xs a.1)

module _ (s : PrintEnv) (fall : DocsDecrease s) where
  -- a greater depth changes nothing
  stable : (d e : ℕ) (n : NodeId) → rank s.nodes n < d → rank s.nodes n < e → fold_down_within (pieces_step s) [] d n ≡ fold_down_within (pieces_step s) [] e n
  stable zero e n v w = absurd (omega arith)
  stable (suc d) zero n v w = absurd (omega arith)
  stable (suc d) (suc e) n v w =
      same_pieces s (fold_down_within (pieces_step s) [] d) (fold_down_within (pieces_step s) [] e) (docs_of s n)
      (nodes_weaker (λ k. rank s.nodes k < rank s.nodes n) _ (λ k low. stable d e k (omega arith) (omega arith)) (docs_of s n) (fall n))

  -- the doc pieces of a node are those of its documents
  pub pieces_at : (n : NodeId) → pieces s n ≡ pieces_step s (pieces s) n
  unfolding pieces fold_down
  pieces_at n =
      same_pieces s (fold_down_within (pieces_step s) [] (rank s.nodes n)) (pieces s) (docs_of s n)
      (nodes_weaker (λ k. rank s.nodes k < rank s.nodes n) _
      (λ k low. stable (rank s.nodes n) (suc (rank s.nodes k)) k low (omega arith)) (docs_of s n) (fall n))
