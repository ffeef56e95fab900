-- Resolution: the first entry of a chain, frame by frame from the innermost, whose name and hygiene both are
-- those asked.
use Rattle.std.specs.List.{flat_map}
use Rattle.std.specs.Prelude.{◌≡◌, ℕ, ◌<◌, List, [], ◌∷◌, ◌++◌, Option, Some, None, Bool, ◌&&◌, if◌then◌else◌, length}
use Rattle.hir_base.specs.Ids.{Name}
use Rattle.hir_base.specs.contracts.hygiene.HygieneIdPartialEq.TheImpl as hygienes
use Rattle.hir_base.specs.contracts.name.NamePartialEq.TheImpl as names
use Rattle.hir_base.specs.declared.hygiene.SyntaxContext.{SyntaxContext}
use Rattle.hir_scope.specs.Frames.{Frame, Chain}
use Rattle.hir_scope.specs.{Paths.path, Paths.frame_at, Scopes.Scope, Scopes.ScopeId, declared.scope.ScopeEntry.ScopeEntry}

-- the entry has this name and this hygiene
abbrev pub matches : Name → SyntaxContext → ScopeEntry → Bool
matches name hygiene entry = hygienes.ghosts.eq entry.hygiene hygiene && names.ghosts.eq entry.name name

abbrev pub find_entry : Name → SyntaxContext → List ScopeEntry → Option ScopeEntry
find_entry name hygiene [] = None
find_entry name hygiene (entry ∷ entries) =
    if matches name hygiene entry then Some entry else find_entry name hygiene entries

-- the entries of a chain, one after the other
abbrev pub entries_of : Chain → List ScopeEntry
entries_of chain = flat_map (λ (f : Frame). f.entries) chain

abbrev pub resolve : Chain → Name → SyntaxContext → Option ScopeEntry
resolve chain name hygiene = find_entry name hygiene (entries_of chain)

-- An entry is found in a scope on the way outward from another: it is the first of that scope with the name
-- and the hygiene, and the scopes before that one have none.
pub record IsFound (scopes : List Scope) (from : ScopeId) (name : List ℕ) (hygiene : SyntaxContext)
    (scope : ScopeId) (entry : ScopeEntry) : Type 0 where
  pub in_range : scope < length scopes
  pub before : List ScopeId
  pub on_the_way : path scopes (Some from) ≡ before ++ path scopes (Some scope)
  pub none_before : resolve (flat_map (frame_at scopes) before) name hygiene ≡ None
  pub is_first : resolve (frame_at scopes scope) name hygiene ≡ Some entry
