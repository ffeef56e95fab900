-- What is kept of a store without nodes, and that a store with no rows in its graph has no node.
use Rattle.std.proofs.Common.{◌≡◌, ℕ, ◌<◌, List, [], refl, arith, length}
use Rattle.std.specs.Prelude.{Option, Some, None}
use Rattle.hir_forest.specs.declared.roots.ForestFault.{ForestFault}
use Rattle.std.specs.List.{concat}
use Rattle.hir_forest.specs.Faults.{edge_fault}
use Rattle.hir_forest.specs.Parents.{HasParents, Parentage, IsParentageOf, shared_fault}
use Rattle.hir_forest.specs.Verdict.{first_below}
use Rattle.hir_node.specs.declared.node_id.NodeId.{NodeId}
use Rattle.hir_node.specs.declared.node_id.NodeId.TheVariants as node
use Rattle.hir_validate.specs.Nodes.{Has, graph}
use Rattle.hir_validate.specs.declared.node_arenas.Nodes.{Nodes}
use Rattle.hir_validate.proofs.FaultLemmas.{graph-length}
use Rattle.hir_store_core.specs.PatLinks.{HasPatLinks}

clash : (p : ℕ) → None ≡ Some p → ⊥
clash p e = cc

pub no_parents : HasParents [] []
no_parents = record { nodes = refl; children = λ c p. (λ e. absurd (clash p e), λ k. absurd (omega (arith, k.1))) }

pub no_links : HasPatLinks [] []
no_links = record { each = refl; children = λ m h. absurd (omega arith) }

none_first : (v : ℕ → Option ForestFault → Type 0) (shared : Option ℕ) → first_below 0 v (shared_fault shared) → shared ≡ None
none_first v None h = refl
none_first v (Some child) h = absurd (omega (arith, h.1))

-- where no row is noted no child is shared
pub none_shared : (t : Parentage) → IsParentageOf [] t → t.shared ≡ None
none_shared t is = none_first (edge_fault (concat [])) t.shared is.shared

pub no_node : (s : Nodes) → length (graph s) ≡ 0 → (n : NodeId) → Has s n → ⊥
no_node s e (node.Expr id) h = omega (arith, graph-length s)
no_node s e (node.Pat id) h = omega (arith, graph-length s)
no_node s e (node.TypeRef id) h = omega (arith, graph-length s)
