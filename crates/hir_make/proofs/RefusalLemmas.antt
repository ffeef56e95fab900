-- The error that a refused builder turns into is one that the clauses of helpers allow.
use Rattle.std.proofs.Common.{◌≡◌, ◌⊎◌, Option, Some, None, inl, inr, refl, ap}
use Rattle.hir_node.specs.declared.node_id.NodeId.{NodeId}
use Rattle.hir_validate.specs.declared.fault.FinishFault.{FinishFault}
use Rattle.hir_validate.specs.declared.fault.FinishFault.TheVariants as finish
use Rattle.hir_body.specs.Bodies.{BodyContents}
use Rattle.hir_signature.specs.declared.signature_fault.SignatureFault.{SignatureFault}
use Rattle.hir_store.specs.Building.{building_of, nodes_of, finish_fault}
use Rattle.hir_store.specs.declared.builder.ExpressionStoreBuilder.{ExpressionStoreBuilder}
use Rattle.hir_error.specs.declared.named_id.NamedId.{NamedId}
use Rattle.hir_error.specs.declared.error.HirError.{HirError}
use Rattle.hir_error.specs.declared.error.HirError.TheVariants as error
use Rattle.hir_error.specs.NamedIds.{missing_id}
use Rattle.hir_error.specs.StoreErrors.{out_of_range, store_error}
use Rattle.hir_make.specs.Adding.{RefusesStore, RefusesId, RefusesBody, RefusesSignature}

-- of all errors those of a builder that isn't finished
RefusesFinish : ExpressionStoreBuilder → HirError → Type 0
RefusesFinish b (error.Store fault) = RefusesStore b fault
RefusesFinish b (error.IdOutOfRange node named) = RefusesId b node named
RefusesFinish b (error.Arena fault) = ⊥
RefusesFinish b (error.Body fault) = ⊥
RefusesFinish b (error.Signature fault) = ⊥
RefusesFinish b (error.Missing definition) = ⊥
RefusesFinish b (error.Scopes fault) = ⊥
RefusesFinish b (error.Print fault) = ⊥
RefusesFinish b (error.Captures fault) = ⊥
RefusesFinish b (error.Rename fault) = ⊥
RefusesFinish b (error.ArgumentLists segments lists) = ⊥

id_refused : (b : ExpressionStoreBuilder) (node : NodeId) (named : Option NamedId) → missing_id (nodes_of b) node ≡ named
    → (finish.IdOutOfRange node ≡ finish.Memory) ⊎ finish_fault (building_of b) (Some (finish.IdOutOfRange node))
    → RefusesFinish b (out_of_range node named)
unfolding RefusesFinish
id_refused b node None is h = (h, ap (out_of_range node) is)
id_refused b node (Some named) is (inl e) = absurd (cc)
id_refused b node (Some named) is (inr h) = (h, is)

finish_refused : (b : ExpressionStoreBuilder) (fault : FinishFault)
    → (fault ≡ finish.Memory) ⊎ finish_fault (building_of b) (Some fault) → RefusesFinish b (store_error (nodes_of b) fault)
unfolding RefusesFinish
finish_refused b (finish.IdOutOfRange node) h = id_refused b node (missing_id (nodes_of b) node) refl h
finish_refused b finish.NoRoots h = (h, refl)
finish_refused b (finish.NotAPath node) h = (h, refl)
finish_refused b (finish.NoReturnType node) h = (h, refl)
finish_refused b (finish.NoSelfArgument node) h = (h, refl)
finish_refused b (finish.ArgumentLists node) h = (h, refl)
finish_refused b (finish.SharedChild node) h = (h, refl)
finish_refused b (finish.Cycle node) h = (h, refl)
finish_refused b (finish.RootOutOfRange i) h = (h, refl)
finish_refused b (finish.RootRepeated i) h = (h, refl)
finish_refused b (finish.RootUnderRoot i) h = (h, refl)
finish_refused b (finish.RootEnds i) h = (h, refl)
finish_refused b finish.Memory h = (h, refl)

for_body : (b : ExpressionStoreBuilder) (made : BodyContents) (e : HirError) → RefusesFinish b e → RefusesBody b made e
unfolding RefusesFinish
for_body b made (error.Store fault) h = h
for_body b made (error.IdOutOfRange node named) h = h
for_body b made (error.Arena fault) h = absurd h
for_body b made (error.Body fault) h = absurd h
for_body b made (error.Signature fault) h = absurd h
for_body b made (error.Missing definition) h = absurd h
for_body b made (error.Scopes fault) h = absurd h
for_body b made (error.Print fault) h = absurd h
for_body b made (error.Captures fault) h = absurd h
for_body b made (error.Rename fault) h = absurd h
for_body b made (error.ArgumentLists segments lists) h = absurd h

for_signature : (b : ExpressionStoreBuilder) (first : Option SignatureFault → Type 0) (e : HirError) → RefusesFinish b e → RefusesSignature b first e
unfolding RefusesFinish
for_signature b first (error.Store fault) h = h
for_signature b first (error.IdOutOfRange node named) h = h
for_signature b first (error.Arena fault) h = absurd h
for_signature b first (error.Body fault) h = absurd h
for_signature b first (error.Signature fault) h = absurd h
for_signature b first (error.Missing definition) h = absurd h
for_signature b first (error.Scopes fault) h = absurd h
for_signature b first (error.Print fault) h = absurd h
for_signature b first (error.Captures fault) h = absurd h
for_signature b first (error.Rename fault) h = absurd h
for_signature b first (error.ArgumentLists segments lists) h = absurd h

-- a body's builder that isn't finished
pub body_refused : (b : ExpressionStoreBuilder) (made : BodyContents) (fault : FinishFault)
    → (fault ≡ finish.Memory) ⊎ finish_fault (building_of b) (Some fault) → RefusesBody b made (store_error (nodes_of b) fault)
body_refused b made fault h = for_body b made _ (finish_refused b fault h)

-- a signature's builder that isn't finished
pub signature_refused : (b : ExpressionStoreBuilder) (first : Option SignatureFault → Type 0) (fault : FinishFault)
    → (fault ≡ finish.Memory) ⊎ finish_fault (building_of b) (Some fault) → RefusesSignature b first (store_error (nodes_of b) fault)
signature_refused b first fault h = for_signature b first _ (finish_refused b fault h)
