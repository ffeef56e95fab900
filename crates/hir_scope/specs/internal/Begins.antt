-- The first state of the walk over a body or a signature: its scopes and its tasks. Only contracts within
-- this crate cite it.
use Rattle.hir_scope.specs.Prelude.{flat_map, List, [], Some, None, Contains, IfSome, length, map, slice_get, ExprId, PatId, e, p, opt, NodeId, Pat, root_nodes, RankDecreases, Nodes, Has, children_of, IsSoundNode, tested_pat, Contents, bindings_at, bindings_in, child_pats_of, nodes_under, BodyContents, AreBelow, formals_of, last_root, entry_nodes, root_entry_nodes}
use Rattle.std.specs.FinMap as finmap
use Rattle.std.specs.Prelude.{◌≡◌, ◌<◌, ◌∷◌, ◌++◌, option_map}
use Rattle.hir_scope.specs.Scopes.{Scope, Scopes}
use Rattle.hir_scope.specs.EntryNodes.{root_frame}
use Rattle.hir_scope.specs.declared.scope.ScopeEntry.{ScopeEntry}
use Rattle.hir_scope.specs.declared.scope.ScopeKind.{ScopeKind}
use Rattle.hir_scope.specs.declared.tasks.CurrentScopes.{CurrentScopes}
use Rattle.hir_scope.specs.declared.tasks.Task.{Task}
use Rattle.hir_scope.specs.internal.WalkState.{WalkState}
use Rattle.hir_scope.specs.internal.Pending.{both, tasks_of}

-- 1. What theorems say of nodes without a fault, where a walk over them needs it

pub record IsSound (s : Nodes) : Type 0 where
  pub fall : RankDecreases s
  pub under : (n : NodeId) → nodes_under s n ≡ n ∷ flat_map (nodes_under s) (children_of s n)
  pub bindings : (id : PatId) → id < length s.pats
      → bindings_in s id ≡ bindings_at s id ++ flat_map (bindings_in s) (child_pats_of s id)
  pub pats : (id : PatId) (x : Pat) → slice_get s.pats id ≡ Some x → IsSoundNode s (tested_pat x)

pub record IsSoundStore (c : Contents) : Type 0 where
  pub nodes : IsSound c.nodes
  pub in_range : (n : NodeId) → Contains (root_entry_nodes c) n → Has c.nodes n

pub record IsSoundBody (b : BodyContents) : Type 0 where
  pub nodes : IsSound b.store.nodes
  pub in_range : (n : NodeId) → Contains (entry_nodes b) n → Has b.store.nodes n
  pub self_in_range : IfSome b.self_param (AreBelow (length b.store.nodes.bindings))

-- 2. The first state

-- the first scope is current, also for constants
abbrev pub at_first : CurrentScopes
at_first = both 0

-- scopes of which no expression has one yet
abbrev pub for_none : List Scope → Scopes
for_none scopes = record { scopes = scopes; scope_by_expr = finmap.empty }

-- the entries that the root scope of a body binds
abbrev pub root_entries : BodyContents → List ScopeEntry
root_entries b =
    (root_frame b.store.nodes (option_map (λ p. p.formal) b.self_param) (formals_of b.params)).entries

abbrev pub body_root : BodyContents → Scope
body_root b = record { parent = None; kind = ScopeKind.None; entries = root_entries b }

abbrev pub formal_tasks : List PatId → List Task
formal_tasks formals = tasks_of (flat_map p formals)

-- the first state over a body: the root scope, then the formals and the last root as tasks
abbrev pub body_begins : BodyContents → WalkState
body_begins b = record {
  scopes = for_none (body_root b ∷ []);
  current = at_first;
  tasks = tasks_of (flat_map p (formals_of b.params) ++ opt e (last_root b.store));
}

-- the root scope of a signature
abbrev pub signature_root : Scope
signature_root = record { parent = None; kind = ScopeKind.None; entries = [] }

-- the first state over a signature, of which these are the roots to visit: the root scope, then these as tasks
abbrev pub roots_begin : List ExprId → WalkState
roots_begin roots = record {
  scopes = for_none (signature_root ∷ []);
  current = at_first;
  tasks = map Task.Root roots;
}

abbrev pub signature_begins : Contents → WalkState
signature_begins c = roots_begin (root_nodes c.roots)
