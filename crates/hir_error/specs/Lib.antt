-- which errors say that an allocation failed
pub mod OutOfMemory
-- the ids that a node names, and the first that doesn't exist
pub mod NamedIds
-- the error that a refused builder turns into
pub mod StoreErrors
-- the sentence of each error
pub mod Texts
-- what the files here import of std and of lower crates, from one place
pub mod Prelude
-- what only contracts within this crate cite
pub mod internal
-- proofs alone, of equality
pub mod same
