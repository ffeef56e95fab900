-- Proofs alone, that `==` of each type decides whether two values are the same. They are in specs, since
-- code and the crates above cite them.
pub mod Leaves
pub mod SameExprs
pub mod SameLiterals
pub mod SamePats
pub mod SameStructs
pub mod SameTypes
pub mod SmallTypes
