-- The scopes of what tables have of a definition: they are missing only where the tables have no entry of it.
use Rattle.std.specs.Prelude.{◌≡◌}
use Rattle.hir_scope.specs.Prelude.{option_map, Option, None, Some, Result, Err, IfOk, DefWithBodyId, ExpressionStoreOwnerId, Contents, StoreAndSources, BodyContents, BodyAndSources}
use Rattle.hir_scope.specs.BodyScopes.{AreBodyScopes, BodyIsTooLarge, AreSignatureScopes, SignatureIsTooLarge}
use Rattle.hir_scope.specs.Scopes.{Scopes}
use Rattle.hir_scope.specs.declared.fault.ScopesFault.{ScopesFault}

-- what is returned for the scopes of what was looked up, of which these are scopes, and which may be too
-- large
abbrev pub Answers : {X : Type 0} → (X → Scopes → Type 0) → (X → Type 0) → Option X
    → Result Scopes ScopesFault → Type 0
Answers are_scopes is_too_large None result = result ≡ Err ScopesFault.Missing
Answers are_scopes is_too_large (Some x) result =
    IfOk result (are_scopes x) × (result ≡ Err ScopesFault.Full → is_too_large x)
    × (result ≡ Err ScopesFault.Missing → ⊥)

-- what is returned for the scopes of a body, and of the store of a signature or of a variant's fields
abbrev pub AnswersBody : Option BodyContents → Result Scopes ScopesFault → Type 0
AnswersBody found result = Answers AreBodyScopes BodyIsTooLarge found result

abbrev pub AnswersStore : Option Contents → Result Scopes ScopesFault → Type 0
AnswersStore found result = Answers AreSignatureScopes SignatureIsTooLarge found result

-- the body of an entry, and the store of an entry, where there is one
abbrev pub body_in : Option BodyAndSources → Option BodyContents
body_in entry = option_map (λ e. e.0) entry

abbrev pub store_in : Option StoreAndSources → Option Contents
store_in entry = option_map (λ e. e.0) entry

-- what is returned for the scopes of an owner, by what the tables have of each: those of the body where it
-- owns one
abbrev pub AnswersOwner : (DefWithBodyId → Option BodyAndSources)
    → (ExpressionStoreOwnerId → Option StoreAndSources) → ExpressionStoreOwnerId
    → Result Scopes ScopesFault → Type 0
AnswersOwner bodies stores (ExpressionStoreOwnerId.Signature def) result =
    AnswersStore (store_in (stores (ExpressionStoreOwnerId.Signature def))) result
AnswersOwner bodies stores (ExpressionStoreOwnerId.Body def) result =
    AnswersBody (body_in (bodies def)) result
AnswersOwner bodies stores (ExpressionStoreOwnerId.VariantFields variant) result =
    AnswersStore (store_in (stores (ExpressionStoreOwnerId.VariantFields variant))) result
