-- the two parts of a source map, and their keys
pub mod Sources
-- how each call of a builder changes it
pub mod Additions
-- what each lookup returns
pub mod Lookups
-- macro calls with their expansions
pub mod Calls
-- the part that `==` compares
pub mod ComparedPart
-- what the files here import of std and of lower crates, from one place
pub mod Prelude
-- what only contracts within this crate cite
pub mod internal
-- proofs alone, of equality
pub mod same
