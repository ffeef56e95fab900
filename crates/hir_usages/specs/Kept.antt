-- What a rename keeps, and what a conflict is: what the paths of a body resolve to along the frames that
-- are around them, whichever scopes were made of it.
use Rattle.std.specs.Prelude.{◌≡◌, ◌≢◌, ◌∷◌, ◌++◌}
use Rattle.hir_usages.specs.Prelude.{All, ℕ, List, Option, Some, None, ExprId, BindingId, ExprOrPatId, hygiene_of, BodyContents, entry_nodes_of_body, HasChain, Chain, Scopes}
use Rattle.hir_usages.specs.Renamed.{renamed_body}
use Rattle.hir_usages.specs.Renames.{name_at, refusal, resolve_along}
use Rattle.hir_usages.specs.Usages.{usages_of_body}
use Rattle.hir_usages.specs.declared.rename_fault.RenameFault.{RenameFault}
use Rattle.hir_usages.specs.declared.usage.Usage.{Usage}

-- a path of a body, which asks for its name at this expression, resolves to a binding or to none: by the
-- frames around the expression
pub record ResolvesTo (b : BodyContents) (path : ExprOrPatId) (expr : ExprId) (found : Option BindingId)
    : Type 0 where
  pub frames : Chain
  pub are_around : HasChain b.store.nodes (entry_nodes_of_body b) expr frames
  pub is : resolve_along b.store frames (hygiene_of b.store.side_tables path) (name_at b.store.nodes path)
      ≡ found

-- a use resolves in this body to the binding that it has, or to none where it has none
abbrev pub Keeps : BodyContents → Usage → Type 0
Keeps b usage = ResolvesTo b usage.path usage.expr usage.binding

-- the binding may have the name: nothing refuses it, no frame has another binding of the name beside it,
-- and in the renamed body each use resolves to what it resolved to before
pub record MayBeRenamed (b : BodyContents) (scopes : Scopes) (binding : BindingId) (name : List ℕ)
    : Type 0 where
  pub accepted : refusal b scopes binding name ≡ None
  pub keeps : All (Keeps (renamed_body b scopes binding name)) (usages_of_body b scopes)

-- the first of these uses that resolves in this body to something else: to this
pub record IsFirstChange (b : BodyContents) (usages : List Usage) (usage : Usage) (found : Option BindingId)
    : Type 0 where
  pub before : List Usage
  pub after : List Usage
  pub is_among : usages ≡ before ++ usage ∷ after
  pub kept_before : All (Keeps b) before
  pub resolves : ResolvesTo b usage.path usage.expr found
  pub differs : found ≢ usage.binding

-- The first use that changes in the renamed body is one of the binding, which finds another one, or any
-- other use, which finds the binding.
pub data IsConflict (renamed : BodyContents) (usages : List Usage) (binding : BindingId)
    : RenameFault → Type 0 where
  hidden : {usage : Usage} {by : BindingId} → usage.binding ≡ Some binding
      → IsFirstChange renamed usages usage (Some by)
      → IsConflict renamed usages binding (RenameFault.Hidden usage.path by)
  captures : {usage : Usage} → IsFirstChange renamed usages usage (Some binding)
      → IsConflict renamed usages binding (RenameFault.Captures usage.path usage.binding)

-- why the binding may not have the name
pub data IsWhyNot (b : BodyContents) (scopes : Scopes) (binding : BindingId) (name : List ℕ)
    : RenameFault → Type 0 where
  refused : {fault : RenameFault} → refusal b scopes binding name ≡ Some fault
      → IsWhyNot b scopes binding name fault
  conflict : {fault : RenameFault} → refusal b scopes binding name ≡ None
      → IsConflict (renamed_body b scopes binding name) (usages_of_body b scopes) binding fault
      → IsWhyNot b scopes binding name fault
