-- The uses of a body, what each resolves to, and the bindings that no use resolves to.
use Rattle.std.specs.Prelude.{◌∷◌, ◌++◌, ◌==◌}
use Rattle.hir_usages.specs.Prelude.{flat_map, filter, list_any, option_to_list, List, [], Option, Some, None, Bool, false, not, option_map, is_some, slice_get, Name, ExprOrPatId, ExprId, PatId, BindingId, Expr, NodeId, Pat, Nodes, Contents, bindings_at, BodyContents, local_name, binding_at, target_binding_at, Scopes, each_once, Spot}
use Rattle.hir_path.specs.declared.ids.ExprOrPatId.TheVariants as either
use Rattle.hir_usages.specs.Visits.{visits}
use Rattle.hir_usages.specs.declared.usage.Usage.{Usage}

-- 1. Uses

-- a path that asks for a name is a use: the expression in whose scope it asks, and the binding that it
-- resolves to there
abbrev pub usage_with : ExprOrPatId → ExprId → Option BindingId → Option Name → List Usage
usage_with path expr binding None = []
usage_with path expr binding (Some name) = record { path = path; expr = expr; binding = binding } ∷ []

-- an expression that is a path asks where it is
abbrev pub usages_of_expr : Contents → Scopes → ExprId → Option Expr → List Usage
usages_of_expr c scopes id (Some (Expr.Path path)) =
    usage_with (either.ExprId id) id (binding_at c scopes id) (local_name path)
usages_of_expr c scopes id found = []

-- a pattern that is a path asks where it is in the target of an assignment, in the scope of the assignment
abbrev pub usages_of_pat : Contents → Scopes → PatId → Option ExprId → Option Pat → List Usage
usages_of_pat c scopes id (Some assignment) (Some (Pat.Path path)) =
    usage_with (either.PatId id) assignment (target_binding_at c scopes assignment id) (local_name path)
usages_of_pat c scopes id assignment found = []

-- the use that a visited node is, where it is one
abbrev pub usages_at : Contents → Scopes → NodeId → Option ExprId → List Usage
usages_at c scopes (NodeId.Expr id) assignment = usages_of_expr c scopes id (slice_get c.nodes.exprs id)
usages_at c scopes (NodeId.Pat id) assignment =
    usages_of_pat c scopes id assignment (slice_get c.nodes.pats id)
usages_at c scopes (NodeId.TypeRef id) assignment = []

abbrev pub usages_in : Contents → Scopes → List Spot → List Usage
usages_in c scopes spots = flat_map (λ at. usages_at c scopes at.node at.assignment) spots

-- the uses of a body, in the order of the walk
abbrev pub usages_of_body : BodyContents → Scopes → List Usage
usages_of_body b scopes = usages_in b.store scopes (visits b)

-- 2. What uses resolve to

abbrev pub is_binding : BindingId → Option BindingId → Bool
is_binding binding None = false
is_binding binding (Some found) = found == binding

abbrev pub resolves_to : BindingId → Usage → Bool
resolves_to binding usage = is_binding binding usage.binding

abbrev pub usages_of : BindingId → List Usage → List Usage
usages_of binding usages = filter (resolves_to binding) usages

abbrev pub unresolved_in : List Usage → List Usage
unresolved_in usages = filter (λ usage. not (is_some usage.binding)) usages

-- 3. What is bound, and not used

abbrev pub bound_at : Nodes → NodeId → List BindingId
bound_at s (NodeId.Pat id) = bindings_at s id
bound_at s (NodeId.Expr id) = []
bound_at s (NodeId.TypeRef id) = []

abbrev pub bound_in : Nodes → List Spot → List BindingId
bound_in s spots = flat_map (λ at. bound_at s at.node) spots

-- what a body binds: the self parameter first, and then its patterns in the order of the walk
abbrev pub bound_by_body : BodyContents → List BindingId
bound_by_body b =
    option_to_list (option_map (λ p. p.formal) b.self_param) ++ bound_in b.store.nodes (visits b)

abbrev pub is_unused : List Usage → BindingId → Bool
is_unused usages binding = not (list_any (resolves_to binding) usages)

-- those to which no use resolves, each once
abbrev pub unused_among : List Usage → List BindingId → List BindingId
unused_among usages bound = each_once (filter (is_unused usages) bound)

-- what is found in a body
pub record FoundUsages : Type 0 where
  pub usages : List Usage
  pub unused : List BindingId

abbrev pub found_in_body : BodyContents → Scopes → FoundUsages
found_in_body b scopes =
    let usages = usages_of_body b scopes in
    record { usages = usages; unused = unused_among usages (bound_by_body b) }
