-- The model of scopes: a list of scopes, each with its parent, and the scope of each expression.
use Rattle.std.specs.Prelude.{◌≡◌, ◌<◌}
use Rattle.hir_scope.specs.Prelude.{sum_by, nat_cmp, ℕ, List, Option, Some, None, length, slice_get, ⊤, BlockId, MacroDefId, LabelId}
use Rattle.std.specs.FinMap as map
use Rattle.hir_scope.specs.Frames.{Frame}
use Rattle.hir_scope.specs.declared.scope.ScopeEntry.{ScopeEntry}
use Rattle.hir_scope.specs.declared.scope.ScopeKind.{ScopeKind}

-- the id of a scope: its index in the list of scopes
abbrev pub ScopeId : Type 0
ScopeId = ℕ

pub record Scope : Type 0 where
  pub parent : Option ScopeId
  pub kind : ScopeKind
  pub entries : List ScopeEntry

pub record Scopes : Type 0 where
  pub scopes : List Scope
  pub scope_by_expr : map.FinMap nat_cmp ScopeId

-- the frame of a scope
abbrev pub frame_of : Scope → Frame
frame_of s = record { kind = s.kind; entries = s.entries }

abbrev pub entry_count : List Scope → ℕ
entry_count scopes = sum_by (λ s. length s.entries) scopes

-- the scope, if any, is below a number
abbrev pub IsBelow : ℕ → Option ScopeId → Type 0
IsBelow n None = ⊤
IsBelow n (Some scope) = scope < n

-- the scope, if any, exists
abbrev pub ScopeIsInRange : List Scope → Option ScopeId → Type 0
ScopeIsInRange scopes scope = IsBelow (length scopes) scope

-- each scope's parent, if any, comes before it
abbrev pub ParentsStandEarlier : List Scope → Type 0
ParentsStandEarlier scopes = (i : ScopeId) (s : Scope) → slice_get scopes i ≡ Some s → IsBelow i s.parent

abbrev pub block_of : ScopeKind → Option BlockId
block_of (ScopeKind.Block id label) = Some id
block_of ScopeKind.None = None
block_of (ScopeKind.Label label) = None
block_of (ScopeKind.MacroDef id) = None

abbrev pub label_of : ScopeKind → Option LabelId
label_of (ScopeKind.Block id label) = label
label_of (ScopeKind.Label label) = Some label
label_of ScopeKind.None = None
label_of (ScopeKind.MacroDef id) = None

abbrev pub macro_def_of : ScopeKind → Option MacroDefId
macro_def_of (ScopeKind.MacroDef id) = Some id
macro_def_of ScopeKind.None = None
macro_def_of (ScopeKind.Block id label) = None
macro_def_of (ScopeKind.Label label) = None
