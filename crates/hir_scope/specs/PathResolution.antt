-- The binding of the store that a path resolves to, by the name that it asks for.
use Rattle.hir_scope.specs.Prelude.{zero, List, [], Option, Some, None, codes, length, nat_lt, slice_get, Name, SyntaxContext, PathKind, Plain, Super, ExprId, PatId, BindingId, Path, Expr, Pat, Contents, hygiene_of}
use Rattle.std.specs.FinMap as map
use Rattle.std.specs.Prelude.{◌∷◌, if◌then◌else◌}
use Rattle.hir_path.specs.declared.ids.ExprOrPatId.TheVariants as either
use Rattle.hir_scope.specs.Paths.{chain}
use Rattle.hir_scope.specs.Resolution.{resolve}
use Rattle.hir_scope.specs.Scopes.{Scopes}
use Rattle.hir_scope.specs.declared.scope.ScopeEntry.{ScopeEntry}

-- A path that may resolve to a local variable asks for a name: one segment alone for itself, and `self` for
-- `self`.
abbrev pub local_name_of : PathKind → List Name → Option Name
local_name_of Plain (name ∷ []) = Some name
local_name_of (Super zero) [] = Some (codes "self")
local_name_of kind names = None

abbrev pub local_name : Path → Option Name
local_name (Path.BarePath p) = local_name_of p.kind p.segments
local_name (Path.Normal n) = None
local_name (Path.LangItem target name) = None

-- the binding of an entry, where it is one of the store
abbrev pub binding_of : Contents → Option ScopeEntry → Option BindingId
binding_of c None = None
binding_of c (Some entry) =
    if nat_lt entry.binding (length c.nodes.bindings) then Some entry.binding else None

-- the binding that a name resolves to at an expression, where a name is asked for
abbrev pub resolve_path : Contents → Scopes → ExprId → SyntaxContext → Option Name → Option BindingId
resolve_path c scopes expr hygiene None = None
resolve_path c scopes expr hygiene (Some name) =
    binding_of c (resolve (chain scopes.scopes (map.get scopes.scope_by_expr expr)) name hygiene)

-- the binding that an expression resolves to: a path is resolved at the expression itself
abbrev pub resolved_by_expr : Contents → Scopes → ExprId → Option Expr → Option BindingId
resolved_by_expr c scopes id (Some (Expr.Path path)) =
    resolve_path c scopes id (hygiene_of c.side_tables (either.ExprId id)) (local_name path)
resolved_by_expr c scopes id found = None

abbrev pub binding_at : Contents → Scopes → ExprId → Option BindingId
binding_at c scopes id = resolved_by_expr c scopes id (slice_get c.nodes.exprs id)

-- the binding that a pattern resolves to: a path in the target of an assignment is resolved at the assignment
abbrev pub resolved_by_pat : Contents → Scopes → ExprId → PatId → Option Pat → Option BindingId
resolved_by_pat c scopes assignment id (Some (Pat.Path path)) =
    resolve_path c scopes assignment (hygiene_of c.side_tables (either.PatId id)) (local_name path)
resolved_by_pat c scopes assignment id found = None

abbrev pub target_binding_at : Contents → Scopes → ExprId → PatId → Option BindingId
target_binding_at c scopes assignment id = resolved_by_pat c scopes assignment id (slice_get c.nodes.pats id)
