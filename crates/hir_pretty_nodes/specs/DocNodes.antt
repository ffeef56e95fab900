-- The nodes among the documents of a node, and that their rank is lower.
use Rattle.std.specs.Prelude.{◌<◌, List, [], ◌∷◌, ⊤}
use Rattle.hir_node.specs.declared.node_id.NodeId.{NodeId}
use Rattle.hir_node.specs.declared.node_id.NodeId.TheVariants as node
use Rattle.hir_validate.specs.Recursion.{rank}
use Rattle.hir_pretty_docs.specs.NameLookups.{PrintEnv}
use Rattle.hir_pretty_docs.specs.Docs.{Doc, Put, MissingDoc, ExprDoc, ExprIn, Pattern, TypeDoc}
use Rattle.hir_pretty_nodes.specs.DocPieces.{docs_of}

-- each node among these documents has this property
abbrev pub AllNodes : (NodeId → Type 0) → List Doc → Type 0
AllNodes P [] = ⊤
AllNodes P (Put piece ∷ is) = AllNodes P is
AllNodes P (MissingDoc missing ∷ is) = AllNodes P is
AllNodes P (ExprDoc id ∷ is) = P (node.Expr id) × AllNodes P is
AllNodes P (ExprIn id parent ∷ is) = P (node.Expr id) × AllNodes P is
AllNodes P (Pattern id ∷ is) = P (node.Pat id) × AllNodes P is
AllNodes P (TypeDoc id ∷ is) = P (node.TypeRef id) × AllNodes P is

-- what is printed inside a node has a lower rank than the node
abbrev pub DocsDecrease : PrintEnv → Type 0
DocsDecrease s = (n : NodeId) → AllNodes (λ k. rank s.nodes k < rank s.nodes n) (docs_of s n)
