-- Only proofs that each `==` of this crate decides whether two values are the same. A reader may skip this
-- folder.
pub mod SameBodies
