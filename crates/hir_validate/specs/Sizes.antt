-- Defines the sizes of the arenas, which ids are in range, and the places of nodes in the order of all:
-- expressions, then patterns, then types.
use Rattle.std.specs.Prelude.{◌+◌, ◌-◌, ◌<◌, ◌≤◌}
use Rattle.hir_validate.specs.Prelude.{ℕ, Bool, List, map, nat_lt, cond, Call, OnExpr, OnAnonConst, OnPat, OnType, OnLifetime, children, NodeId}
use Rattle.hir_validate.specs.declared.sizes.Sizes.{Sizes}
use Rattle.hir_node.specs.declared.node_id.NodeId.TheVariants as node

-- whether the id that a call is made with is in range
abbrev pub is_in_range : Sizes → Call → Bool
is_in_range sizes (OnExpr id) = nat_lt id sizes.exprs
is_in_range sizes (OnAnonConst id) = nat_lt id sizes.exprs
is_in_range sizes (OnPat id) = nat_lt id sizes.pats
is_in_range sizes (OnType id) = nat_lt id sizes.types
is_in_range sizes (OnLifetime id) = nat_lt id sizes.lifetimes

-- the node is in range
abbrev pub HasNode : Sizes → NodeId → Type 0
HasNode sizes (node.Expr id) = id < sizes.exprs
HasNode sizes (node.Pat id) = id < sizes.pats
HasNode sizes (node.TypeRef id) = id < sizes.types

-- the place of a node in the order of all nodes
abbrev pub place : Sizes → NodeId → ℕ
place sizes (node.Expr id) = id
place sizes (node.Pat id) = sizes.exprs + id
place sizes (node.TypeRef id) = sizes.exprs + sizes.pats + id

-- the node at a place in the order of all nodes
abbrev pub node_at : Sizes → ℕ → NodeId
node_at sizes n =
    cond (nat_lt n sizes.exprs) (node.Expr n)
    (cond (nat_lt n (sizes.exprs + sizes.pats)) (node.Pat (n - sizes.exprs))
    (node.TypeRef (n - (sizes.exprs + sizes.pats))))

-- the places of the children among calls
abbrev pub places : Sizes → List Call → List ℕ
places sizes calls = map (place sizes) (children calls)

-- each arena has at most as many items as ids can name
pub record Few (sizes : Sizes) : Type 0 where
  pub exprs : sizes.exprs ≤ 4294967295
  pub pats : sizes.pats ≤ 4294967295
  pub types : sizes.types ≤ 4294967295
  pub bindings : sizes.bindings ≤ 4294967295
