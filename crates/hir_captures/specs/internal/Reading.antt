-- The steps of the reading of a closure's code. Only contracts within this crate cite them.
use Rattle.std.specs.Prelude.{◌≡◌, ◌-◌, ◌<◌}
use Rattle.hir_captures.specs.Prelude.{flat_map, List, Option, fold, filter_map, length, ExprId, BindingId, Chain, chain, Scopes}
use Rattle.std.specs.FinMap as map
use Rattle.hir_captures.specs.Captures.{resolve_outside, with_new}
use Rattle.hir_captures.specs.Uses.{Use, spot_uses}
use Rattle.hir_captures.specs.declared.code.Code.{Code}
use Rattle.hir_captures.specs.declared.tasks.Task.{Task}
use Rattle.hir_captures.specs.internal.Pending.{AreInRange, code_of}

-- the chain that the scopes give an expression
abbrev pub chain_in : Scopes → ExprId → Chain
chain_in scopes expr = chain scopes.scopes (map.get scopes.scope_by_expr expr)

-- the binding that a use captures, by the scopes
abbrev pub captured_binding_in : Code → Use → Option BindingId
captured_binding_in code use_ =
    let at = chain_in code.scopes.now use_.expr in
    resolve_outside (length at - code.outermost) at use_.name use_.hygiene

-- what was found, with the captures of uses, each once
abbrev pub with_uses : Code → List BindingId → List Use → List BindingId
with_uses code found uses = fold with_new found (filter_map (captured_binding_in code) uses)

-- what was found, with the captures of what is still to be read, each once
abbrev pub with_code : Code → List BindingId → List Task → List BindingId
with_code code found tasks =
    with_uses code found (flat_map (spot_uses code.store.now) (code_of code.store.now.nodes tasks))

-- what holds before and after one task: all that is to be found stays the same
pub record ReadsTask (code : Code) (before : List BindingId) (old : List Task)
    (after : List BindingId) (new : List Task) : Type 0 where
  pub in_range : AreInRange code.store.now.nodes new
  pub finds : with_code code before old ≡ with_code code after new
  pub shorter : length (code_of code.store.now.nodes new) < length (code_of code.store.now.nodes old)
