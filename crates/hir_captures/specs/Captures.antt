-- The captures of a closure: the bindings from outside that its code uses, in the order of their first use,
-- each once.
use Rattle.hir_captures.specs.Prelude.{list_any, AllByRecursion, option_map, ℕ, ⊤, List, [], Option, Some, None, fold, take, length, filter_map, slice_get, Name, SyntaxContext, ExprId, BindingId, Expr, NodeId, Contents, BodyContents, BodyReaches, entry_nodes_of_body, HasChain, Chain, resolve, ScopeEntry}
use Rattle.std.specs.Prelude.{◌≡◌, ◌-◌, ◌∷◌, ◌++◌, ◌==◌, if◌then◌else◌}
use Rattle.hir_captures.specs.Uses.{Use, uses_in}

-- the binding of an entry that was found, unless one further in was found too
abbrev pub outer_entry : Option ScopeEntry → Option ScopeEntry → Option BindingId
outer_entry None found = option_map (λ (entry : ScopeEntry). entry.binding) found
outer_entry (Some entry) found = None

-- What a use in a closure captures. The chain of the use is the closure's own chain, `own`, with the frames on it
-- that are `between` the closure and the use: its arguments, and what its code opens. The use captures the
-- binding that its name resolves to along the closure's own chain, unless a frame between has an entry for it.
--
-- In the running example (hir_node/specs/ChildCalls.antt; its frames are in hir_scope/specs/Chains.antt) the closure
-- `|z| x + z` has the chain B R, its own, and its uses 0, `x`, and 1, `z`, have C B R: C is between. `x` isn't in C,
-- and along B R it is found in R: binding 0 is captured. `z` is in C: nothing is.
pub record IsCapturedBinding (own chain : Chain) (use_ : Use) (captured : Option BindingId) : Type 0 where
  pub between : Chain
  pub on : chain ≡ between ++ own
  pub is : captured ≡ outer_entry (resolve between use_.name use_.hygiene) (resolve own use_.name use_.hygiene)

-- each of these uses captures this
abbrev pub EachCaptures : (ExprId → Chain) → ExprId → (Use → Option BindingId) → List Use → Type 0
EachCaptures chain closure captured uses =
    AllByRecursion (λ (u : Use). IsCapturedBinding (chain closure) (chain u.expr) u (captured u)) uses

-- each number of a list once, where it comes first
abbrev pub with_new : List BindingId → BindingId → List BindingId
with_new found x = if list_any (λ y. y == x) found then found else found ++ x ∷ []

abbrev pub each_once : List BindingId → List BindingId
each_once xs = fold with_new [] xs

-- each expression that the body reaches has this chain
abbrev pub AreChains : BodyContents → (ExprId → Chain) → Type 0
AreChains b chain =
    (expr : ExprId) → BodyReaches b (NodeId.Expr expr)
    → HasChain b.store.nodes (entry_nodes_of_body b) expr (chain expr)

-- the captures of a closure are what its uses capture, each once
pub record AreCaptures (b : BodyContents) (closure : ExprId) (captures : List BindingId) : Type 0 where
  pub chain : ExprId → Chain
  pub are_chains : AreChains b chain
  pub captured : Use → Option BindingId
  pub each : EachCaptures chain closure captured (uses_in b.store closure)
  pub are : captures ≡ each_once (filter_map captured (uses_in b.store closure))

-- The same by lengths, as code finds it: the frames between are as many as the chain of the use is longer than
-- the closure's own. That these are the captures is the theorem `lengths_decide_captures`.

-- the binding that a name resolves to along a chain, unless the entry is in this number of its innermost
-- frames
abbrev pub resolve_outside : ℕ → Chain → Name → SyntaxContext → Option BindingId
resolve_outside innermost chain name hygiene =
    outer_entry (resolve (take innermost chain) name hygiene) (resolve chain name hygiene)

abbrev pub captured_binding : (ExprId → Chain) → ExprId → Use → Option BindingId
captured_binding chain closure use_ =
    let at = chain use_.expr in
    resolve_outside (length at - length (chain closure)) at use_.name use_.hygiene

-- the captures of a closure, by the chain of each expression
abbrev pub captures_by : (ExprId → Chain) → Contents → ExprId → List BindingId
captures_by chain c closure = each_once (filter_map (captured_binding chain closure) (uses_in c closure))

-- the expression exists, and is a closure
abbrev pub IsClosure : Option Expr → Type 0
IsClosure (Some (Expr.Closure args arg_types ret_type body kind capture)) = ⊤
IsClosure found = ⊥

-- the expression is a closure that the body reaches
abbrev pub IsReachedClosure : BodyContents → ExprId → Type 0
IsReachedClosure b id = IsClosure (slice_get b.store.nodes.exprs id) × BodyReaches b (NodeId.Expr id)

-- these are some frames put on that chain
abbrev pub IsOn : Chain → Chain → Type 0
IsOn outer chain = (more : Chain) × (chain ≡ more ++ outer)
