-- Proofs alone, that `==` of each type decides whether two values are the same. They are in specs, since
-- code and the crates above cite them.
pub mod Fields
pub mod Leaves
pub mod SameArgs
pub mod SamePaths
