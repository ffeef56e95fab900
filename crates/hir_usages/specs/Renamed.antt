-- The body in which a binding has a new name, and so have the paths of its uses.
use Rattle.std.specs.Prelude.{◌∷◌}
use Rattle.hir_usages.specs.Prelude.{ℕ, zero, suc, List, [], fold, map, Name, ExprOrPatId, BindingId, one_name, Path, Binding, Expr, Pat, Nodes, Contents, BodyContents, Scopes}
use Rattle.hir_path.specs.declared.ids.ExprOrPatId.TheVariants.{ExprId, PatId}
use Rattle.hir_usages.specs.Usages.{usages_of, usages_of_body}
use Rattle.hir_usages.specs.declared.usage.Usage.{Usage}

-- a list in which one item is changed, where it is in range
abbrev pub change_at : {X : Type 0} → (X → X) → List X → ℕ → List X
change_at f [] i = []
change_at f (x ∷ xs) zero = f x ∷ xs
change_at f (x ∷ xs) (suc i) = x ∷ change_at f xs i

-- a path without arguments becomes the new name: no other one is a use
abbrev pub renamed_path : Name → Path → Path
renamed_path name (Path.BarePath path) = one_name name
renamed_path name (Path.Normal path) = Path.Normal path
renamed_path name (Path.LangItem target segment) = Path.LangItem target segment

abbrev pub renamed_expr : Name → Expr → Expr
renamed_expr name (Expr.Path path) = Expr.Path (renamed_path name path)
renamed_expr name x = x

abbrev pub renamed_pat : Name → Pat → Pat
renamed_pat name (Pat.Path path) = Pat.Path (renamed_path name path)
renamed_pat name x = x

abbrev pub renamed_binding : Name → Binding → Binding
renamed_binding name binding = record binding { name = name }

abbrev pub rename_path : Name → Nodes → ExprOrPatId → Nodes
rename_path name s (ExprId id) = record s { exprs = change_at (renamed_expr name) s.exprs id }
rename_path name s (PatId id) = record s { pats = change_at (renamed_pat name) s.pats id }

abbrev pub rename_binding : Name → Nodes → BindingId → Nodes
rename_binding name s binding = record s { bindings = change_at (renamed_binding name) s.bindings binding }

-- the binding, and the paths of these uses
abbrev pub renamed_nodes : Name → BindingId → List Usage → Nodes → Nodes
renamed_nodes name binding usages s =
    fold (rename_path name) (rename_binding name s binding) (map (λ (usage : Usage). usage.path) usages)

abbrev pub with_nodes : Contents → Nodes → Contents
with_nodes c s = record c { nodes = s }

abbrev pub with_store : BodyContents → Contents → BodyContents
with_store b c = record b { store = c }

-- the body in which the binding and its uses have the name
abbrev pub renamed_body : BodyContents → Scopes → BindingId → Name → BodyContents
renamed_body b scopes binding name =
    let usages = usages_of binding (usages_of_body b scopes) in
    with_store b (with_nodes b.store (renamed_nodes name binding usages b.store.nodes))
