-- The result of a lookup of a store by its owner, and what is missing where there is none.
use Rattle.hir_store_core.specs.Prelude.{ExpressionStoreOwnerId, ExpressionStoreSourceMap}
use Rattle.hir_base.specs.declared.defs.ExpressionStoreOwnerId.TheVariants as owner
use Rattle.hir_store_core.specs.Contents.{Contents}
use Rattle.hir_store_core.specs.declared.missing.Missing.{Missing}
use Rattle.hir_store_core.specs.declared.missing.Missing.TheVariants as missing

-- a store, and where it comes from
abbrev pub StoreAndSources : Type 0
StoreAndSources = Contents × ExpressionStoreSourceMap

-- the missing fact where an owner has no entry
abbrev pub missing_owner : ExpressionStoreOwnerId → Missing
missing_owner (owner.Signature def) = missing.Signature def
missing_owner (owner.Body def) = missing.Body def
missing_owner (owner.VariantFields variant) = missing.Fields variant
