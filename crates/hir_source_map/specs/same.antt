-- Proofs alone, that each `==` of this crate decides whether two values are the same. A reader may pass over
-- this folder.
pub mod SameDiagnostics
pub mod SameComparedPart
pub mod SameMaps
pub mod SameBuilders
