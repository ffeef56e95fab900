-- The descendants of a node in its context, as a list.
use Rattle.std.specs.{List.flat_map, List.filter, Prelude.List, Prelude.[], Prelude.◌∷◌}
use Rattle.hir_node.specs.declared.node_id.NodeId.{NodeId}
use Rattle.hir_validate.specs.{Recursion.fold_down, declared.node_arenas.Nodes.Nodes}
use Rattle.hir_scope.specs.{BodyScopes.is_expr, Chains.InContext, Chains.children_in_context, Frames.Chain}

abbrev pub in_context : NodeId → Chain → Chain → InContext
in_context n scope const_scope = record { node = n; scope = scope; const_scope = const_scope }

-- a node in its context, and then the descendants of its children, in the order in which scopes are made
abbrev pub under_step : Nodes → (NodeId → Chain → Chain → List InContext) → NodeId → Chain → Chain
    → List InContext
under_step s self n scope const_scope =
    let this = in_context n scope const_scope in
    this ∷ flat_map (λ at. self at.node at.scope at.const_scope) (children_in_context s this)

-- the contexts of a node and its descendants, preorder
-- contexts_under s at = at ∷ flat_map (contexts_under s) (children_in_context s at): lemma under_at of UnderLemmas
unfoldable pub contexts_under : Nodes → InContext → List InContext
contexts_under s at = fold_down s (under_step s) (λ scope const_scope. []) at.node at.scope at.const_scope

-- the expressions among some nodes in their contexts, and among their descendants
unfoldable pub exprs_under : Nodes → List InContext → List InContext
exprs_under s all = filter (λ at. is_expr at.node) (flat_map (contexts_under s) all)

abbrev pub exprs_at : Nodes → NodeId → Chain → Chain → List InContext
exprs_at s n scope const_scope = exprs_under s (in_context n scope const_scope ∷ [])
