-- Defines the ids that a node names, of all arenas, and the first of them that doesn't exist. In
-- `ExprId(1) names ExprId(99), which doesn't exist` the first is the node, and the second is this id.
use Rattle.std.specs.Prelude.{◌++◌}
use Rattle.hir_error.specs.Prelude.{Bool, not, nat_lt, List, map, find, slice_get, Option, codes, decimal, ℕ, Expr, Pat, TypeRef, NodeId, Call, OnExpr, OnAnonConst, OnPat, OnType, OnLifetime, expr_calls, pat_calls, type_calls, expr_labels, pat_bindings, Sizes, Nodes, sizes_of, all_of}
use Rattle.hir_node.specs.declared.node_id.NodeId.TheVariants as node
use Rattle.hir_error.specs.declared.named_id.NamedId.{NamedId}
use Rattle.hir_error.specs.declared.named_id.NamedId.TheVariants as named

-- the text of an id: its kind, and its number in parentheses
abbrev pub named_id_text : NamedId → List ℕ
named_id_text (named.Expr id) = codes "ExprId(" ++ decimal id ++ codes ")"
named_id_text (named.Pat id) = codes "PatId(" ++ decimal id ++ codes ")"
named_id_text (named.TypeRef id) = codes "TypeRefId(" ++ decimal id ++ codes ")"
named_id_text (named.Lifetime id) = codes "LifetimeRefId(" ++ decimal id ++ codes ")"
named_id_text (named.Binding id) = codes "BindingId(" ++ decimal id ++ codes ")"
named_id_text (named.Label id) = codes "LabelId(" ++ decimal id ++ codes ")"

-- whether the arena of an id has it
abbrev pub exists : Sizes → NamedId → Bool
exists sizes (named.Expr id) = nat_lt id sizes.exprs
exists sizes (named.Pat id) = nat_lt id sizes.pats
exists sizes (named.TypeRef id) = nat_lt id sizes.types
exists sizes (named.Lifetime id) = nat_lt id sizes.lifetimes
exists sizes (named.Binding id) = nat_lt id sizes.bindings
exists sizes (named.Label id) = nat_lt id sizes.labels

-- the id that a child call is made with
abbrev pub id_of_call : Call → NamedId
id_of_call (OnExpr id) = named.Expr id
id_of_call (OnAnonConst id) = named.Expr id
id_of_call (OnPat id) = named.Pat id
id_of_call (OnType id) = named.TypeRef id
id_of_call (OnLifetime id) = named.Lifetime id

-- the ids that an expression, a pattern or a type names: those of its child calls, in order, and then its
-- label or its binding
abbrev pub ids_of_expr : Expr → List NamedId
ids_of_expr x = map id_of_call (expr_calls x) ++ map named.Label (expr_labels x)

abbrev pub ids_of_pat : Pat → List NamedId
ids_of_pat x = map id_of_call (pat_calls x) ++ map named.Binding (pat_bindings x)

abbrev pub ids_of_type : TypeRef → List NamedId
ids_of_type x = map id_of_call (type_calls x)

-- the ids that the node with this id names; none where no node has this id
abbrev pub ids_of : Nodes → NodeId → List NamedId
ids_of s (node.Expr id) = all_of ids_of_expr (slice_get s.exprs id)
ids_of s (node.Pat id) = all_of ids_of_pat (slice_get s.pats id)
ids_of s (node.TypeRef id) = all_of ids_of_type (slice_get s.types id)

-- the first of some ids that doesn't exist in arenas of these sizes
abbrev pub first_out_of_range : Sizes → List NamedId → Option NamedId
first_out_of_range sizes = find (λ id. not (exists sizes id))

-- the first id that a node names and that doesn't exist
abbrev pub missing_id : Nodes → NodeId → Option NamedId
missing_id s id = first_out_of_range (sizes_of s) (ids_of s id)
