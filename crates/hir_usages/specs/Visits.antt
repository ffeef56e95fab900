-- The walk over a body in the order in which scopes are made: each node, and then its children, also those
-- in constants and in types.
use Rattle.std.specs.Prelude.{◌∷◌}
use Rattle.hir_usages.specs.Prelude.{flat_map, List, [], Option, None, ExprId, children, NodeId, fold_down, Nodes, BodyContents, entry_nodes, form_of, met_in_form, Spot, spot, assignment_at, of_pattern}

-- the children of a node, in that order
abbrev pub children_in_order : Nodes → NodeId → List NodeId
children_in_order s n = children (met_in_form (form_of s n))

-- what a child is visited with: a pattern is in the target of the assignment that its parent is, or is in
-- the target of
abbrev pub visit_child : (NodeId → Option ExprId → List Spot) → Option ExprId → NodeId → List Spot
visit_child self assignment child = self child (of_pattern child assignment)

abbrev pub visit_step : Nodes → (NodeId → Option ExprId → List Spot) → NodeId → Option ExprId → List Spot
visit_step s self n assignment =
    spot n assignment ∷ flat_map (visit_child self (assignment_at s n assignment)) (children_in_order s n)

-- the visits under a node, its own first
-- visits_under s n a = visit_step s (visits_under s) n a: lemma visits_at of VisitLemmas
unfoldable pub visits_under : Nodes → NodeId → Option ExprId → List Spot
visits_under s n assignment = fold_down s (visit_step s) (λ assignment. []) n assignment

-- the visits of a body: those under its formals, and then those under its last root
abbrev pub visits : BodyContents → List Spot
visits b = flat_map (λ n. visits_under b.store.nodes n None) (entry_nodes b)
