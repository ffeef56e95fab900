-- The lists in which scopes are kept: the entries of all in one list, of which each scope has a range, one
-- range after the other.
use Rattle.std.specs.Prelude.{◌≡◌, ◌-◌, ◌<◌, ◌≤◌, ◌∷◌}
use Rattle.hir_scope.specs.Prelude.{nat_cmp, ℕ, List, [], Some, length, map, take, drop, slice_get, ExprId}
use Rattle.std.specs.FinMap as finmap
use Rattle.hir_scope.specs.Scopes.{Scope, ScopeId, IsBelow}
use Rattle.hir_scope.specs.declared.expr_scopes.ScopeData.{ScopeData}
use Rattle.hir_scope.specs.declared.scope.ScopeEntry.{ScopeEntry}

-- the entries in the range of a scope
abbrev pub entries_in : List ScopeEntry → ScopeData → List ScopeEntry
entries_in entries range = take (range.end - range.start) (drop range.start entries)

abbrev pub scope_of : List ScopeEntry → ScopeData → Scope
scope_of entries range =
    record { parent = range.parent; kind = range.kind; entries = entries_in entries range }

abbrev pub scopes_of : List ScopeEntry → List ScopeData → List Scope
scopes_of entries all = map (scope_of entries) all

-- each range begins where the one before it ends, the first at `from`, and the last ends at `last`
abbrev pub FollowEachOther : ℕ → List ScopeData → ℕ → Type 0
FollowEachOther from [] last = from ≡ last
FollowEachOther from (range ∷ rest) last =
    (range.start ≡ from) × (from ≤ range.end) × FollowEachOther range.end rest last

-- the ranges fill the list, each scope's parent, if any, comes before it, and the scope of each expression
-- exists
pub record IsFlat (entries : List ScopeEntry) (scopes : List ScopeData)
    (scope_by_expr : finmap.FinMap nat_cmp ScopeId) : Type 0 where
  pub fill : FollowEachOther 0 scopes (length entries)
  pub parents : (i : ScopeId) (range : ScopeData) → slice_get scopes i ≡ Some range → IsBelow i range.parent
  pub in_range : (expr : ExprId) (scope : ScopeId)
      → finmap.get scope_by_expr expr ≡ Some scope → scope < length scopes
  pub few_scopes : length scopes ≤ 4294967295
  pub few_entries : length entries ≤ 4294967295
