-- Only proofs that each `==` of this crate decides whether two values are the same. A reader may skip this
-- folder.
pub mod SameData
pub mod SameGenerics
pub mod SameParams
pub mod SameSignatures
