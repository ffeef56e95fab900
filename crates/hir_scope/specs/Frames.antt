-- A lexical frame: a kind, and the bindings that it binds, all at once.
use Rattle.std.specs.Prelude.{◌∷◌}
use Rattle.hir_scope.specs.Prelude.{flat_map, List, [], slice_get, PatId, BindingId, Binding, Nodes, all_of, bindings_in}
use Rattle.hir_scope.specs.declared.scope.ScopeEntry.{ScopeEntry}
use Rattle.hir_scope.specs.declared.scope.ScopeKind.{ScopeKind}

pub record Frame : Type 0 where
  pub kind : ScopeKind
  pub entries : List ScopeEntry

-- frames, the innermost first
abbrev pub Chain : Type 0
Chain = List Frame

-- the entry of a binding: its name, its hygiene, its number
abbrev pub entry_of : BindingId → Binding → ScopeEntry
entry_of id binding = record { name = binding.name; hygiene = binding.hygiene; binding = id }

-- the entry of a binding, where it exists
abbrev pub entry_at : Nodes → BindingId → List ScopeEntry
entry_at s id = all_of (λ binding. entry_of id binding ∷ []) (slice_get s.bindings id)

-- the entries of the `Bind` patterns of a pattern, in the order of its patterns
abbrev pub binds : Nodes → PatId → List ScopeEntry
binds s p = flat_map (entry_at s) (bindings_in s p)

-- a frame of entries alone
abbrev pub plain : List ScopeEntry → Frame
plain entries = record { kind = ScopeKind.None; entries = entries }

-- the frame of this kind of all that these patterns bind
abbrev pub frame_with : Nodes → ScopeKind → List PatId → Frame
frame_with s kind ps = record { kind = kind; entries = flat_map (binds s) ps }

abbrev pub frame : Nodes → List PatId → Frame
frame s ps = frame_with s ScopeKind.None ps

-- a frame that is only of a kind
abbrev pub of_kind : ScopeKind → Frame
of_kind kind = record { kind = kind; entries = [] }

abbrev pub empty : Frame
empty = of_kind ScopeKind.None
