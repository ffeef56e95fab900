-- The model of a body, and the first fault of its parts.
use Rattle.std.specs.Prelude.{◌≡◌, ◌⊎◌, ◌<◌, ◌∷◌, ◌++◌}
use Rattle.hir_body.specs.Prelude.{ℕ, List, [], Option, Some, None, IfSome, option_map, length, map, take, slice_index, Contains, option_to_list, ExprId, PatId, BindingId, ◌unless◌, ◌before◌, first_below, root_nodes, last_of, NodeId, Nodes, Contents, LiesUnderOther, IsReached, reached_nodes}
use Rattle.hir_node.specs.declared.node_id.NodeId.TheVariants as node
use Rattle.hir_body.specs.declared.formals.Param.{Param}
use Rattle.hir_body.specs.declared.body_fault.BodyFault.{BodyFault}
use Rattle.hir_body.specs.declared.body_fault.BodyFault.TheVariants.{NoRoot, SelfOutOfRange, ParamOutOfRange, ParamRepeated, ParamUnder, RootInParam}

-- a store, the patterns of the parameters, the bindings of `self`
pub record BodyContents : Type 0 where
  pub store : Contents
  pub params : List (Param PatId)
  pub self_param : Option (Param BindingId)

-- the body of these parts
abbrev pub body_of : Contents → List (Param PatId) → Option (Param BindingId) → BodyContents
body_of store params self_param = record { store = store; params = params; self_param = self_param }

-- the formal patterns of parameters
abbrev pub formals_of : List (Param PatId) → List PatId
formals_of params = map (λ p. p.formal) params

abbrev pub user_written_of : List (Param PatId) → List PatId
user_written_of params = map (λ p. p.user_written) params

-- the last root, where the store has one
abbrev pub last_root : Contents → Option ExprId
last_root c = last_of (root_nodes c.roots)

-- the entry nodes of a body: its formals, and its last root
abbrev pub entry_nodes_of : List (Param PatId) → ExprId → List NodeId
entry_nodes_of params root = map node.Pat (formals_of params) ++ node.Expr root ∷ []

abbrev pub entry_nodes : BodyContents → List NodeId
entry_nodes b = map node.Pat (formals_of b.params)
    ++ option_to_list (option_map node.Expr (last_root b.store))

-- the body reaches the node: it is a descendant of a formal or of the last root
abbrev pub BodyReaches : BodyContents → NodeId → Type 0
BodyReaches b n = IsReached b.store.nodes (entry_nodes b) n

-- the nodes that a body reaches: the descendants of the first formal, of the second and so on, and of the
-- last root
abbrev pub body_nodes : BodyContents → List NodeId
body_nodes b = reached_nodes b.store.nodes (entry_nodes b)

-- both ids of a parameter exist
abbrev pub AreBelow : ℕ → Param ℕ → Type 0
AreBelow limit p = (p.formal < limit) × (p.user_written < limit)

-- a pattern of parameter i is not among this many patterns
abbrev pub range_fault : ℕ → List (Param PatId) → ℕ → Option BodyFault → Type 0
range_fault limit params i =
    ParamOutOfRange i
    unless ((slice_index (formals_of params) i < limit) × (slice_index (user_written_of params) i < limit))

-- formal i is an earlier formal
abbrev pub repeated_fault : List PatId → ℕ → Option BodyFault → Type 0
repeated_fault formals i = ParamRepeated i unless (Contains (take i formals) (slice_index formals i) → ⊥)

-- formal i is a descendant of another
abbrev pub under_fault : (NodeId → Type 0) → List PatId → ℕ → Option BodyFault → Type 0
under_fault IsUnder formals i = ParamUnder i unless (IsUnder (node.Pat (slice_index formals i)) → ⊥)

-- formals and the last root are not disjoint: a formal repeats, is a descendant of another formal or of the
-- last root, or the last root is a descendant of a formal
unfoldable pub apart_fault : Nodes → List (Param PatId) → ExprId → Option BodyFault → Type 0
apart_fault s params root =
    first_below (length params) (repeated_fault (formals_of params))
    before first_below (length params)
    (under_fault (LiesUnderOther s (Contains (entry_nodes_of params root))) (formals_of params))
    before (RootInParam
    unless (LiesUnderOther s (Contains (map node.Pat (formals_of params))) (node.Expr root) → ⊥))

-- the first fault where the store has a last root
abbrev pub fault_at_root : BodyContents → Option ExprId → Option BodyFault → Type 0
fault_at_root b None f = f ≡ Some NoRoot
fault_at_root b (Some root) f =
    ((SelfOutOfRange unless IfSome b.self_param (AreBelow (length b.store.nodes.bindings)))
    before first_below (length b.params) (range_fault (length b.store.nodes.pats) b.params)
    before apart_fault b.store.nodes b.params root) f

-- the first fault of a body's parts
unfoldable pub body_fault : BodyContents → Option BodyFault → Type 0
body_fault b = fault_at_root b (last_root b.store)

-- the binding is one of the two of `self`
abbrev pub IsAnySelf : BodyContents → BindingId → Type 0
IsAnySelf b id = (p : Param BindingId) × (b.self_param ≡ Some p) × ((p.formal ≡ id) ⊎ (p.user_written ≡ id))
