-- what the tables have that heads of definitions need
pub mod FoundParts
-- what bodies are printed as
pub mod Bodies
-- what structs, unions and variants are printed as
pub mod Variants
-- what signatures are printed as
pub mod Signatures
-- what printing the signature of any definition returns
pub mod Owners
-- what the files here import of std and of lower crates, from one place
pub mod Prelude
-- what only contracts within this crate cite
pub mod internal
