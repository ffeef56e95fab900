-- The entry nodes of a body or a signature in their contexts: its nodes are reached from these, with the
-- frames around each.
use Rattle.std.specs.Prelude.{◌∷◌, ◌++◌}
use Rattle.hir_scope.specs.Prelude.{flat_map, List, [], Option, map, ExprId, PatId, BindingId, e, p, opt, NodeId, Nodes, all_of}
use Rattle.hir_scope.specs.Chains.{InContext, child_in_context}
use Rattle.hir_scope.specs.Frames.{Frame, entry_at, binds, plain, empty}
use Rattle.hir_scope.specs.ChildContexts.{in_turn}

-- the root frame of a body: the binding of `self`, where the body has one, and then what the formals bind
abbrev pub root_frame : Nodes → Option BindingId → List PatId → Frame
root_frame s self_binding formals = plain (all_of (entry_at s) self_binding ++ flat_map (binds s) formals)

-- The entry nodes of a body: the formals and then its last root, in turn, over the root frame. Only that
-- frame is around constants.
unfoldable pub body_entry_nodes : Nodes → Option BindingId → List PatId → Option ExprId → List InContext
body_entry_nodes s self_binding formals last_root =
    let root = root_frame s self_binding formals ∷ [] in
    map (child_in_context [] []) (in_turn s root root (flat_map p formals ++ opt e last_root))

-- The entry nodes of a signature: each root, over an empty frame of its own on the empty root frame. Both are
-- around constants too.
unfoldable pub signature_entry_nodes : List ExprId → List InContext
signature_entry_nodes roots =
    let outer = empty ∷ empty ∷ [] in
    map (λ root. record { node = NodeId.Expr root; scope = outer; const_scope = outer }) roots
