-- Defines the text of a node's id.
use Rattle.std.specs.Prelude.{ℕ, List, ◌++◌, codes, decimal}
use Rattle.hir_node.specs.declared.node_id.NodeId.{NodeId}
use Rattle.hir_node.specs.declared.node_id.NodeId.TheVariants as node

-- the text of an id: its kind, and its number in parentheses
abbrev pub node_text : NodeId → List ℕ
node_text (node.Expr id) = codes "ExprId(" ++ decimal id ++ codes ")"
node_text (node.Pat id) = codes "PatId(" ++ decimal id ++ codes ")"
node_text (node.TypeRef id) = codes "TypeRefId(" ++ decimal id ++ codes ")"
