-- The words that public contracts cite, for clauses of a user's own: one module for each file of definitions,
-- under its own name where no two have one, and one for each type that clauses name, as
-- `Rattle.hir.specs.NodeId.{NodeId}`.

-- lists, boxes, arenas, maps
pub use Rattle.hir_collections.specs.Boxed
pub use Rattle.hir_collections.specs.Codes
pub use Rattle.hir_collections.specs.Laws
pub use Rattle.hir_collections.specs.Seq
pub use Rattle.hir_collections.specs.Stacks
pub use Rattle.hir_collections.specs.Table
pub use Rattle.hir_collections.specs.TableLends
pub use Rattle.hir_collections.specs.declared.arena.ArenaFault
pub use Rattle.hir_collections.specs.declared.arena.TheConstants as ArenaConstants
-- ids, names, hygiene
pub use Rattle.hir_base.specs.Abi
pub use Rattle.hir_base.specs.Hygiene
pub use Rattle.hir_base.specs.Ids as DefinitionIds
pub use Rattle.hir_base.specs.Keys
pub use Rattle.hir_base.specs.ModPath
pub use Rattle.hir_base.specs.OpTexts
pub use Rattle.hir_base.specs.Precedence
pub use Rattle.hir_base.specs.RawWords
pub use Rattle.hir_base.specs.declared.defs.AdtId
pub use Rattle.hir_base.specs.declared.defs.DefWithBodyId
pub use Rattle.hir_base.specs.declared.defs.ExpressionStoreOwnerId
pub use Rattle.hir_base.specs.declared.defs.GenericDefId
pub use Rattle.hir_base.specs.declared.hygiene.SyntaxContext
pub use Rattle.hir_base.specs.declared.params.TypeOrConstParamId
pub use Rattle.hir_base.specs.declared.ptr.SyntaxNodePtr
-- paths
pub use Rattle.hir_path.specs.Ids
pub use Rattle.hir_path.specs.Keys as PathKeys
pub use Rattle.hir_path.specs.Lists
pub use Rattle.hir_path.specs.NodeIds
pub use Rattle.hir_path.specs.Paths
pub use Rattle.hir_path.specs.Segments
pub use Rattle.hir_path.specs.declared.bound.TraitBoundModifier
pub use Rattle.hir_path.specs.declared.bound.TypeBound
pub use Rattle.hir_path.specs.declared.ids.ExprOrPatId
pub use Rattle.hir_path.specs.declared.path.AssociatedTypeBinding
pub use Rattle.hir_path.specs.declared.path.GenericArg
pub use Rattle.hir_path.specs.declared.path.GenericArgs
pub use Rattle.hir_path.specs.declared.path.NormalPath
pub use Rattle.hir_path.specs.declared.path.Path
-- nodes and their child calls
pub use Rattle.hir_node.specs.Annotations
pub use Rattle.hir_node.specs.ChildCalls
pub use Rattle.hir_node.specs.Keywords
pub use Rattle.hir_node.specs.Literals
pub use Rattle.hir_node.specs.Precedence as NodePrecedence
pub use Rattle.hir_node.specs.Runs
pub use Rattle.hir_node.specs.declared.expr.Expr
pub use Rattle.hir_node.specs.declared.expr_types.RecordLitField
pub use Rattle.hir_node.specs.declared.expr_types.RecordSpread
pub use Rattle.hir_node.specs.declared.literal.Literal
pub use Rattle.hir_node.specs.declared.node_id.NodeId
pub use Rattle.hir_node.specs.declared.pat.Pat
pub use Rattle.hir_node.specs.declared.pat.RecordFieldPat
pub use Rattle.hir_node.specs.declared.type_ref.Rawness
pub use Rattle.hir_node.specs.declared.type_ref.TypeRef
-- source maps
pub use Rattle.hir_source_map.specs.Additions
pub use Rattle.hir_source_map.specs.ComparedPart
pub use Rattle.hir_source_map.specs.Lookups
pub use Rattle.hir_source_map.specs.Sources
pub use Rattle.hir_source_map.specs.declared.source_map.ExpressionStoreSourceMap
pub use Rattle.hir_source_map.specs.declared.source_map_builder.SourceMapBuilder
-- forests
pub use Rattle.hir_forest.specs.Faults
pub use Rattle.hir_forest.specs.Forest
pub use Rattle.hir_forest.specs.declared.roots.Root
-- faults of nodes
pub use Rattle.hir_validate.specs.Recursion
pub use Rattle.hir_validate.specs.Faults as NodeFaults
pub use Rattle.hir_validate.specs.Fits
pub use Rattle.hir_validate.specs.Nodes
pub use Rattle.hir_validate.specs.Sizes
pub use Rattle.hir_validate.specs.Sound
pub use Rattle.hir_validate.specs.TestedParts
pub use Rattle.hir_validate.specs.declared.fault.FinishFault
pub use Rattle.hir_validate.specs.declared.node_arenas.Nodes as NodeArenas
-- the store
pub use Rattle.hir_store_core.specs.Ancestors
pub use Rattle.hir_store_core.specs.Blocks
pub use Rattle.hir_store_core.specs.Bounds
pub use Rattle.hir_store_core.specs.Contents
pub use Rattle.hir_store_core.specs.JumpTargets
pub use Rattle.hir_store_core.specs.NodeSets
pub use Rattle.hir_store_core.specs.Owners as StoreOwners
pub use Rattle.hir_store_core.specs.PatLinks
pub use Rattle.hir_store_core.specs.PatLists
pub use Rattle.hir_store_core.specs.RootSearch
pub use Rattle.hir_store_core.specs.SideTables
pub use Rattle.hir_store_core.specs.Tries
pub use Rattle.hir_store_core.specs.Under
pub use Rattle.hir_store_core.specs.declared.missing.Missing
-- the builder
pub use Rattle.hir_store.specs.Building
-- bodies
pub use Rattle.hir_body.specs.Bodies
pub use Rattle.hir_body.specs.Lookups as BodyLookups
pub use Rattle.hir_body.specs.declared.body_fault.BodyFault
pub use Rattle.hir_body.specs.declared.body_source_map.BodySourceMap
-- generic parameters and signatures
pub use Rattle.hir_signature.specs.FirstOfName
pub use Rattle.hir_signature.specs.Generics
pub use Rattle.hir_signature.specs.Lookups as SignatureLookups
pub use Rattle.hir_signature.specs.Params
pub use Rattle.hir_signature.specs.Signatures
pub use Rattle.hir_signature.specs.declared.any_param.TypeOrConstParamData
pub use Rattle.hir_signature.specs.declared.param_data.LifetimeBoundType
pub use Rattle.hir_signature.specs.declared.param_data.LifetimeParamData
pub use Rattle.hir_signature.specs.declared.signatures.FunctionParts
pub use Rattle.hir_signature.specs.declared.signatures.PlainParts
pub use Rattle.hir_signature.specs.declared.signatures.StructParts
pub use Rattle.hir_signature.specs.declared.signatures.VariantParts
-- tables of definitions
pub use Rattle.hir_defs.specs.NoTables
pub use Rattle.hir_defs.specs.Tables
-- scopes and resolution
pub use Rattle.hir_scope.specs.BodyScopes
pub use Rattle.hir_scope.specs.Chains
pub use Rattle.hir_scope.specs.ScopingForms
pub use Rattle.hir_scope.specs.Frames
pub use Rattle.hir_scope.specs.OpenFrames
pub use Rattle.hir_scope.specs.Lookups as ScopeLookups
pub use Rattle.hir_scope.specs.Macros
pub use Rattle.hir_scope.specs.PathResolution
pub use Rattle.hir_scope.specs.Order
pub use Rattle.hir_scope.specs.Paths as ScopePaths
pub use Rattle.hir_scope.specs.Resolution
pub use Rattle.hir_scope.specs.Scopes
pub use Rattle.hir_scope.specs.ChildContexts
pub use Rattle.hir_scope.specs.declared.form.Form
pub use Rattle.hir_scope.specs.declared.macros.Expansion
-- captures
pub use Rattle.hir_captures.specs.Captures
pub use Rattle.hir_captures.specs.Uses
-- uses, visible names and renames
pub use Rattle.hir_usages.specs.Visits
pub use Rattle.hir_usages.specs.Usages
pub use Rattle.hir_usages.specs.Visible
pub use Rattle.hir_usages.specs.Renamed
pub use Rattle.hir_usages.specs.Renames
pub use Rattle.hir_usages.specs.Kept
pub use Rattle.hir_usages.specs.Labels
pub use Rattle.hir_usages.specs.declared.usage.Usage
pub use Rattle.hir_usages.specs.declared.rename_fault.RenameFault
-- what nodes are printed as
pub use Rattle.hir_pretty_nodes.specs.Prelude
-- what bodies and signatures are printed as
pub use Rattle.hir_pretty.specs.Bodies as PrintedBodies
pub use Rattle.hir_pretty.specs.FoundParts
pub use Rattle.hir_pretty.specs.Owners
pub use Rattle.hir_pretty.specs.Signatures as PrintedSignatures
pub use Rattle.hir_pretty.specs.Variants
-- errors
pub use Rattle.hir_error.specs.NamedIds
pub use Rattle.hir_error.specs.OutOfMemory
pub use Rattle.hir_error.specs.StoreErrors
pub use Rattle.hir_error.specs.Texts as ErrorTexts
pub use Rattle.hir_error.specs.declared.error.HirError
pub use Rattle.hir_error.specs.declared.named_id.NamedId
-- helpers
pub use Rattle.hir_make.specs.Adding
pub use Rattle.hir_make.specs.Parts
