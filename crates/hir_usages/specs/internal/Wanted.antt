-- Which uses a walk searches for: all, or those that a rename may change.
use Rattle.std.specs.List.{filter}
use Rattle.std.specs.Prelude.{ℕ, List, [], ◌∷◌, Option, Some, None, Bool, true, false, ◌||◌, if◌then◌else◌}
use Rattle.hir_base.specs.contracts.name.NamePartialEq.TheImpl as names
use Rattle.hir_path.specs.NodeIds.{ExprId, BindingId}
use Rattle.hir_node.specs.declared.node_id.NodeId.{NodeId}
use Rattle.hir_validate.specs.declared.node_arenas.Nodes.{Nodes}
use Rattle.hir_usages.specs.Renames.{name_at}
use Rattle.hir_usages.specs.Usages.{resolves_to, usages_at}
use Rattle.hir_usages.specs.declared.{usage.Usage.Usage, walk.Walk.Walk, walk.Wanted.Wanted}

abbrev pub asks_for : List ℕ → Option (List ℕ) → Bool
asks_for new None = false
asks_for new (Some name) = names.ghosts.eq new name

-- a use that asks for this name may change with the binding's name: it is one of the binding, or it asks for
-- the new name
abbrev pub is_affected : BindingId → List ℕ → Option (List ℕ) → Usage → Bool
is_affected binding new name usage = resolves_to binding usage || asks_for new name

abbrev pub affected_among : BindingId → List ℕ → Nodes → List Usage → List Usage
affected_among binding new s usages =
    filter (λ usage. is_affected binding new (name_at s usage.path) usage) usages

-- a use that asks for this name is searched for
abbrev pub is_wanted : Wanted → Option (List ℕ) → Usage → Bool
is_wanted Wanted.All name usage = true
is_wanted (Wanted.OfRename binding new) name usage = is_affected binding new.now name usage

abbrev pub wanted_among : Wanted → Nodes → List Usage → List Usage
wanted_among wanted s usages = filter (λ usage. is_wanted wanted (name_at s usage.path) usage) usages

-- the use that a node is, where it is one that is searched for
abbrev pub wanted_at : Walk → NodeId → Option ExprId → List Usage
wanted_at w n assignment =
    wanted_among w.wanted w.store.now.nodes (usages_at w.store.now w.scopes.now n assignment)

-- the use, where it is searched for
abbrev pub if_wanted : Wanted → Usage → List ℕ → List Usage
if_wanted wanted usage name = if is_wanted wanted (Some name) usage then usage ∷ [] else []
