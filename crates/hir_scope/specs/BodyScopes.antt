-- The scopes of a body or a signature: which expressions have one, the frames along its chain, the frames of
-- all scopes, and how many scopes and entries exist.
use Rattle.std.specs.Prelude.{◌≡◌, ◌↔◌, ◌<◌, ◌⊎◌, ◌∷◌, ◌++◌}
use Rattle.hir_scope.specs.Prelude.{filter, option_map, replicate, ℕ, Bool, true, false, List, Some, IsSome, length, ExprId, NodeId, root_nodes, Nodes, Contents, BodyContents, BodyReaches, body_nodes, formals_of, last_root, SignatureReaches, signature_nodes}
use Rattle.std.specs.FinMap as map
use Rattle.std.specs.List.Sorted.{IsPermutation}
use Rattle.hir_scope.specs.Chains.{InContext, HasChain}
use Rattle.hir_scope.specs.Counts.{frames_of_nodes, frames_of_scopes, body_scope_count, body_entry_count, signature_scope_count, signature_entry_count}
use Rattle.hir_scope.specs.Paths.{chain}
use Rattle.hir_scope.specs.Scopes.{Scopes, ScopeId, entry_count}
use Rattle.hir_scope.specs.Frames.{Frame, empty}
use Rattle.hir_scope.specs.EntryNodes.{root_frame, body_entry_nodes, signature_entry_nodes}

-- the entry nodes of a body, in their contexts
abbrev pub entry_nodes_of_body : BodyContents → List InContext
entry_nodes_of_body b =
    let self_binding = option_map (λ p. p.formal) b.self_param in
    body_entry_nodes b.store.nodes self_binding (formals_of b.params) (last_root b.store)

-- the entry nodes of a signature, in their contexts
abbrev pub entry_nodes_of_signature : Contents → List InContext
entry_nodes_of_signature c = signature_entry_nodes (root_nodes c.roots)

-- the frames along the chain of each expression's scope are the lexical frames around the expression
abbrev pub ChainsAreFrames : Nodes → List InContext → Scopes → Type 0
ChainsAreFrames s entry_nodes scopes =
    (expr : ExprId) (scope : ScopeId) → map.get scopes.scope_by_expr expr ≡ Some scope
    → HasChain s entry_nodes expr (chain scopes.scopes (Some scope))

-- the frames of the scopes of a body: the root frame, and those that its nodes open
abbrev pub body_frames : BodyContents → List Frame
body_frames b =
    root_frame b.store.nodes (option_map (λ p. p.formal) b.self_param) (formals_of b.params)
    ∷ frames_of_nodes b.store.nodes (body_nodes b)

-- the frames of the scopes of a signature: the root frame, one for each root, and those that its nodes open
abbrev pub signature_frames : Contents → List Frame
signature_frames c =
    empty ∷ (replicate (length c.roots) empty ++ frames_of_nodes c.nodes (signature_nodes c))

pub record AreBodyScopes (b : BodyContents) (result : Scopes) : Type 0 where
  pub reached : (expr : ExprId)
      → IsSome (map.get result.scope_by_expr expr) ↔ BodyReaches b (NodeId.Expr expr)
  pub chains : ChainsAreFrames b.store.nodes (entry_nodes_of_body b) result
  -- the frames of all scopes, in some order
  pub frames : IsPermutation (body_frames b) (frames_of_scopes result.scopes)
  pub scopes : length result.scopes ≡ body_scope_count b.store.nodes (body_nodes b)
  pub entries : entry_count result.scopes ≡ body_entry_count b.store.nodes b.self_param (body_nodes b)

pub record AreSignatureScopes (c : Contents) (result : Scopes) : Type 0 where
  pub reached : (expr : ExprId)
      → IsSome (map.get result.scope_by_expr expr) ↔ SignatureReaches c (NodeId.Expr expr)
  pub chains : ChainsAreFrames c.nodes (entry_nodes_of_signature c) result
  -- the frames of all scopes, in some order
  pub frames : IsPermutation (signature_frames c) (frames_of_scopes result.scopes)
  pub scopes : length result.scopes ≡ signature_scope_count c.nodes (length c.roots) (signature_nodes c)
  pub entries : entry_count result.scopes ≡ signature_entry_count c.nodes (signature_nodes c)

abbrev pub is_expr : NodeId → Bool
is_expr (NodeId.Expr id) = true
is_expr (NodeId.Pat id) = false
is_expr (NodeId.TypeRef id) = false

-- how many of these nodes are expressions
abbrev pub expr_count : List NodeId → ℕ
expr_count nodes = length (filter is_expr nodes)

-- the most scopes, and the most entries, that can exist
abbrev pub limit : ℕ
limit = 4294967295

-- the body needs more scopes or more entries than can exist
abbrev pub BodyIsTooLarge : BodyContents → Type 0
BodyIsTooLarge b =
    (limit < body_scope_count b.store.nodes (body_nodes b))
    ⊎ (limit < body_entry_count b.store.nodes b.self_param (body_nodes b))

abbrev pub SignatureIsTooLarge : Contents → Type 0
SignatureIsTooLarge c =
    (limit < signature_scope_count c.nodes (length c.roots) (signature_nodes c))
    ⊎ (limit < signature_entry_count c.nodes (signature_nodes c))
