-- The rename of a binding: what each use resolves to afterwards, and the first reason why there is none.
use Rattle.hir_usages.specs.Prelude.{list_any, option_or, List, [], Option, Some, None, Bool, true, false, map, not, codes, option_map, slice_get, Name, SyntaxContext, ExprOrPatId, ExprId, BindingId, Binding, Expr, Pat, Nodes, Contents, hygiene_of, BodyContents, Param, Frame, Chain, local_name, binding_at, binding_of, target_binding_at, chain, matches, resolve, Scope, Scopes, ScopeEntry}
use Rattle.std.specs.FinMap as map
use Rattle.std.specs.Prelude.{◌∷◌, ◌==◌, ◌&&◌, ◌||◌, if◌then◌else◌}
use Rattle.hir_base.specs.contracts.name.NamePartialEq.TheImpl as names
use Rattle.hir_path.specs.declared.ids.ExprOrPatId.TheVariants as either
use Rattle.hir_usages.specs.Usages.{resolves_to, usages_of_body}
use Rattle.hir_usages.specs.declared.rename_fault.RenameFault.{RenameFault}
use Rattle.hir_usages.specs.declared.usage.Usage.{Usage}

-- the first that f gives for one of these
abbrev pub first_some : {X Y : Type 0} → (X → Option Y) → List X → Option Y
first_some f [] = None
first_some f (x ∷ xs) = option_or (f x) (first_some f xs)

-- 1. Chains in which the binding has the new name

abbrev pub renamed_entry : BindingId → Name → ScopeEntry → ScopeEntry
renamed_entry binding name entry = if entry.binding == binding then record entry { name = name } else entry

abbrev pub renamed_frame : BindingId → Name → Frame → Frame
renamed_frame binding name frame =
    record { kind = frame.kind; entries = map (renamed_entry binding name) frame.entries }

abbrev pub renamed_chain : BindingId → Name → Chain → Chain
renamed_chain binding name frames = map (renamed_frame binding name) frames

-- 2. What a use resolves to afterwards

-- the name that a path asks for
abbrev pub name_of_expr : Option Expr → Option Name
name_of_expr (Some (Expr.Path path)) = local_name path
name_of_expr found = None

abbrev pub name_of_pat : Option Pat → Option Name
name_of_pat (Some (Pat.Path path)) = local_name path
name_of_pat found = None

abbrev pub name_at : Nodes → ExprOrPatId → Option Name
name_at s (either.ExprId id) = name_of_expr (slice_get s.exprs id)
name_at s (either.PatId id) = name_of_pat (slice_get s.pats id)

-- the new name, where it is a use of the binding
abbrev pub name_after : BindingId → Name → Nodes → Usage → Option Name
name_after binding name s usage = if resolves_to binding usage then Some name else name_at s usage.path

-- the binding that a name resolves to along a chain, where a name is asked for
abbrev pub resolve_along : Contents → Chain → SyntaxContext → Option Name → Option BindingId
resolve_along c frames hygiene None = None
resolve_along c frames hygiene (Some name) = binding_of c (resolve frames name hygiene)

abbrev pub chain_at : Scopes → ExprId → Chain
chain_at scopes expr = chain scopes.scopes (map.get scopes.scope_by_expr expr)

-- what a path resolves to in some scopes, where it asks at this expression
abbrev pub binding_for : Contents → Scopes → ExprOrPatId → ExprId → Option BindingId
binding_for c scopes (either.ExprId id) expr = binding_at c scopes id
binding_for c scopes (either.PatId id) expr = target_binding_at c scopes expr id

abbrev pub resolved_after : Contents → Scopes → BindingId → Name → Usage → Option BindingId
resolved_after c scopes binding name usage =
    resolve_along c (renamed_chain binding name (chain_at scopes usage.expr))
    (hygiene_of c.side_tables usage.path) (name_after binding name c.nodes usage)

-- 3. Conflicts: uses that would resolve to something else

abbrev pub is_same : Option BindingId → Option BindingId → Bool
is_same None None = true
is_same (Some x) (Some y) = x == y
is_same x y = false

-- a use of the binding is hidden by another one, any other use is captured
abbrev pub conflict_of : Usage → Bool → Option BindingId → RenameFault
conflict_of usage true (Some by) = RenameFault.Hidden usage.path by
conflict_of usage is_own after = RenameFault.Captures usage.path usage.binding

abbrev pub conflict_at : Contents → Scopes → BindingId → Name → Usage → Option RenameFault
conflict_at c scopes binding name usage =
    let after = resolved_after c scopes binding name usage in
    if is_same after usage.binding then None else Some (conflict_of usage (resolves_to binding usage) after)

abbrev pub first_conflict : Contents → Scopes → BindingId → Name → List Usage → Option RenameFault
first_conflict c scopes binding name usages = first_some (conflict_at c scopes binding name) usages

-- 4. What is refused before

abbrev pub has_entry : BindingId → List ScopeEntry → Bool
has_entry binding entries = list_any (λ entry. entry.binding == binding) entries

-- an entry of a scope is the binding's
abbrev pub is_bound : Scopes → BindingId → Bool
is_bound scopes binding = list_any (λ (s : Scope). has_entry binding s.entries) scopes.scopes

abbrev pub is_self_name : Name → Bool
is_self_name name = names.ghosts.eq name (codes "self")

abbrev pub is_self_param : Option (Param BindingId) → BindingId → Bool
is_self_param None binding = false
is_self_param (Some param) binding = (param.formal == binding) || (param.user_written == binding)

-- the binding of an entry with this name and hygiene, where it is another one
abbrev pub other_of : BindingId → Name → SyntaxContext → ScopeEntry → Option BindingId
other_of binding name hygiene entry =
    if matches name hygiene entry && not (entry.binding == binding) then Some entry.binding else None

-- another binding of this name and hygiene beside the binding, in one frame
abbrev pub other_among : BindingId → Name → SyntaxContext → List ScopeEntry → Option BindingId
other_among binding name hygiene entries =
    if has_entry binding entries then first_some (other_of binding name hygiene) entries else None

abbrev pub other_beside : Scopes → BindingId → Name → SyntaxContext → Option BindingId
other_beside scopes binding name hygiene =
    first_some (λ (s : Scope). other_among binding name hygiene s.entries) scopes.scopes

-- 5. The first reason why there is no rename

abbrev pub refusal_of : BodyContents → Scopes → BindingId → Name → Binding → Option RenameFault
refusal_of b scopes binding name found =
    if not (is_bound scopes binding) then Some RenameFault.NotBound else
    if is_self_param b.self_param binding || (is_self_name found.name || is_self_name name)
    then Some RenameFault.IsSelf else
    option_map (λ other. RenameFault.SameFrame other) (other_beside scopes binding name found.hygiene)

abbrev pub refusal_at : BodyContents → Scopes → BindingId → Name → Option Binding → Option RenameFault
refusal_at b scopes binding name None = Some RenameFault.NotBound
refusal_at b scopes binding name (Some found) = refusal_of b scopes binding name found

abbrev pub refusal : BodyContents → Scopes → BindingId → Name → Option RenameFault
refusal b scopes binding name =
    refusal_at b scopes binding name (slice_get b.store.nodes.bindings binding)

abbrev pub rename_fault : BodyContents → Scopes → BindingId → Name → Option RenameFault
rename_fault b scopes binding name =
    option_or (refusal b scopes binding name)
    (first_conflict b.store scopes binding name (usages_of_body b scopes))
