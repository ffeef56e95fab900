-- What is printed inside a node of an accepted store has a lower rank than the node.
use Rattle.std.proofs.Common.{◌<◌, Contains, slice_get, arith}
use Rattle.hir_node.specs.ChildCalls.{expr_calls, pat_calls, type_calls}
use Rattle.hir_pretty_nodes.specs.Prelude.{NodeId, PrintEnv, expr_docs, pat_docs, type_docs, DocsDecrease}
use Rattle.hir_node.specs.declared.node_id.NodeId.TheVariants as node
use Rattle.hir_validate.specs.{Nodes.calls_of, Nodes.children_of, Recursion.rank}
use Rattle.hir_pretty_nodes.proofs.DecreaseLemmas.{AllCalls, all_of_children, opt_falls}
use Rattle.hir_pretty_nodes.proofs.NodesDecrease.{expr_falls, pat_falls, type_falls}

module _ (s : PrintEnv) (low : (n k : NodeId) → Contains (children_of s.nodes n) k → rank s.nodes k < rank s.nodes n) where
  abbrev Lower : NodeId → NodeId → Type 0
  Lower n k = rank s.nodes k < rank s.nodes n

  closed : (n k : NodeId) → Lower n k → AllCalls (Lower n) (calls_of s.nodes k)
  closed n k h = all_of_children (Lower n) (calls_of s.nodes k) (λ j c. let lower = low k j c in omega arith)

  children_lower : (n : NodeId) → AllCalls (Lower n) (calls_of s.nodes n)
  children_lower n = all_of_children (Lower n) (calls_of s.nodes n) (low n)

  pub docs_decrease : DocsDecrease s
  docs_decrease (node.Expr id) = opt_falls (Lower (node.Expr id)) expr_calls (expr_docs s)
      (expr_falls (Lower (node.Expr id)) s (closed (node.Expr id))) (slice_get s.nodes.exprs id) (children_lower (node.Expr id))
  docs_decrease (node.Pat id) = opt_falls (Lower (node.Pat id)) pat_calls (pat_docs s) (pat_falls (Lower (node.Pat id)) s)
      (slice_get s.nodes.pats id) (children_lower (node.Pat id))
  docs_decrease (node.TypeRef id) = opt_falls (Lower (node.TypeRef id)) type_calls (type_docs s)
      (type_falls (Lower (node.TypeRef id)) s) (slice_get s.nodes.types id) (children_lower (node.TypeRef id))
