-- lexical frames, and chains of them
pub mod Frames
-- the scoping form of a node
pub mod ScopingForms
-- the frames that a node leaves open
pub mod OpenFrames
-- the order in which scopes are made
pub mod Order
-- the contexts of a node's children
pub mod ChildContexts
-- the chain of an expression
pub mod Chains
-- the entry nodes of a body or a signature, in their contexts
pub mod EntryNodes
-- the model of scopes
pub mod Scopes
-- the path and the chain of a scope
pub mod Paths
-- how many scopes and entries the reached nodes add
pub mod Counts
-- the scopes of a body or a signature: what a caller knows of them
pub mod BodyScopes
-- the scopes of a definition in tables
pub mod Lookups
-- resolution of a name along a chain
pub mod Resolution
-- the binding that a path resolves to
pub mod PathResolution
-- resolution through the definitions of macros
pub mod Macros
-- the lists in which scopes are kept
pub mod Flat
-- what the files here import of std and of lower crates, from one place
pub mod Prelude
-- what only contracts within this crate cite
pub mod internal
-- proof that `==` of scopes decides whether they are the same
pub mod same
