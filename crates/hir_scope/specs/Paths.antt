-- The path of a scope: its id and those of the scopes around it, innermost first. Along it are the frames of
-- the scope's chain.
use Rattle.std.specs.Prelude.{◌∷◌, ◌++◌}
use Rattle.hir_scope.specs.Prelude.{flat_map, List, [], Option, Some, None, fold, length, slice_get, slice_index_or, all_of}
use Rattle.hir_scope.specs.Frames.{Frame, Chain}
use Rattle.hir_scope.specs.Scopes.{Scope, ScopeId, frame_of}

-- the path of a scope, if any, whose path is among these
abbrev pub path_among : List (List ScopeId) → Option ScopeId → List ScopeId
path_among earlier None = []
path_among earlier (Some scope) = slice_index_or earlier scope []

-- the paths of the earlier scopes, and the path of one more scope: its id, and the path of its parent
abbrev pub with_path : List (List ScopeId) → Scope → List (List ScopeId)
with_path earlier s = earlier ++ (length earlier ∷ path_among earlier s.parent) ∷ []

-- the path of each scope in turn
unfoldable pub paths : List Scope → List (List ScopeId)
paths scopes = fold with_path [] scopes

abbrev pub path : List Scope → Option ScopeId → List ScopeId
path scopes scope = path_among (paths scopes) scope

abbrev pub frame_at : List Scope → ScopeId → List Frame
frame_at scopes scope = all_of (λ s. frame_of s ∷ []) (slice_get scopes scope)

-- the chain of a scope: the frames along its path
abbrev pub chain : List Scope → Option ScopeId → Chain
chain scopes scope = flat_map (frame_at scopes) (path scopes scope)
